use Rattle.std.proofs.Common.{◌≡◌, ℕ, ◌<◌, ◌≤◌, length, get_or, drop}
use Rattle.hu_totals.specs.View.{cells_of}
use Rattle.hu_average.specs.Totals.{plus, total_at}
use Rattle.hu_average.specs.Tails.{left_from, total_in}
use Rattle.hu_average.proofs.totals.add_tail.Given as goal

abbrev pub invariant-loop-place : goal.invariant-loop-place
invariant-loop-place l = record {
  within : l.place ≤ length l.tail.cells.now;
  len : length l.totals.items ≡ length l.fn.totals.items;
  totals : (i : ℕ) → i < length l.slots.ranks → total_at l.totals.items i
      ≡ plus (total_at l.fn.totals.items i)
      (total_in (left_from (get_or l.slots.ranks i 0) l.tail.own l.tail.most (cells_of (drop l.place l.tail.cells.now))));
}

abbrev pub decreases-loop-place : goal.decreases-loop-place
decreases-loop-place l = l.place
