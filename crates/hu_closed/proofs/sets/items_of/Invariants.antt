use Rattle.std.proofs.Common.{◌≡◌, take}
use Rattle.hu_kind.specs.Cell.{pairs_of}
use Rattle.hu_kind.specs.Record.{items_in}
use Rattle.hu_totals.specs.Weights.{numbers_of}
use Rattle.hu_closed.proofs.sets.items_of.Given as goal

abbrev pub invariant-loop-cell : goal.invariant-loop-cell
invariant-loop-cell l = numbers_of l.items.items ≡ items_in (pairs_of (take l.cell-index l.cells))
