use Rattle.std.proofs.Common.{ℕ, Bool, ◌||◌, ◌≤◌, take, length}
use Rattle.hu_kind.specs.Cell.{pairs_of}
use Rattle.hu_kind.specs.Record.{has}
use Rattle.hu_proof.specs.Judged.{IsLowest}
use Rattle.hu_proof.proofs.children.lowest.Given as goal

abbrev pub invariant-loop-cell : goal.invariant-loop-cell
invariant-loop-cell l = record {
  within : l.low ≤ length l.order;
  value : (test : ℕ → Bool) → IsLowest l.order l.named l.from test l.before
      → IsLowest l.order l.named l.from (λ item. test item || has item (pairs_of (take l.cell-index l.cells))) l.low;
}
