use Rattle.std.proofs.Common.{◌≡◌, ◌++◌, drop}
use Rattle.hu_kind.specs.Cell.{pairs_of}
use Rattle.hu_proof.specs.Slots.{slotted}
use Rattle.hu_proof.proofs.slots.fill.Given as goal

abbrev pub invariant-loop-cell : goal.invariant-loop-cell
invariant-loop-cell l = l.values.items ++ slotted l.named (pairs_of (drop l.cell-index l.cells)) ≡ slotted l.named (pairs_of l.cells)
