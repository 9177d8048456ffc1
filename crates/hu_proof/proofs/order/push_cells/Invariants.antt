use Rattle.std.proofs.Common.{◌≡◌, ◌++◌, take}
use Rattle.hu_kind.specs.Cell.{pairs_of}
use Rattle.hu_kind.specs.Record.{items_in}
use Rattle.hu_proof.proofs.order.push_cells.Given as goal

abbrev pub invariant-loop-cell : goal.invariant-loop-cell
invariant-loop-cell l = l.numbers.items ≡ l.fn.numbers.items ++ items_in (pairs_of (take l.cell-index l.cells))
