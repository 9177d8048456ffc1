use Rattle.std.proofs.Common.{◌∙◌, ap}
use Rattle.hu_kind.specs.Cell.{pairs_of}
use Rattle.hu_chain.proofs.lemmas.Cells.{pairs-drop}
use Rattle.hu_chain.proofs.Tails.{cells-left}
use Rattle.hu_chain.proofs.place.cells_from.Goals as goal

pub returns : goal.returns
returns c = ap pairs_of (cells-left c.args.cells.now c.args.first) ∙ pairs-drop c.args.first c.args.cells.now
