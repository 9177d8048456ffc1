use Rattle.std.proofs.Common.{◌≡◌, take}
use Rattle.hu_kind.specs.Cell.{pairs_of}
use Rattle.hu_kept.specs.Shared.{shared_cells}
use Rattle.hu_kept.proofs.shared.shared_cells.Given as goal

abbrev pub invariant-loop-cell : goal.invariant-loop-cell
invariant-loop-cell l = pairs_of l.shared.items ≡ shared_cells l.batch (pairs_of (take l.cell-index l.cells))
