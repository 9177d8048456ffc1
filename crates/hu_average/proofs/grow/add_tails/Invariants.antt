use Rattle.std.proofs.Common.{◌≡◌, ℕ, ◌<◌, ◌≤◌, ◌++◌, length, get_or, drop}
use Rattle.hu_totals.specs.View.{cells_of}
use Rattle.hu_average.specs.Tails.{left_from, tails_at}
use Rattle.hu_average.proofs.grow.add_tails.Given as goal

abbrev pub invariant-loop-place : goal.invariant-loop-place
invariant-loop-place l = record {
  within : l.place ≤ length l.tail.cells.now;
  len : length l.lists.items ≡ length l.slots.ranks;
  lists : (i : ℕ) → i < length l.slots.ranks → tails_at l.lists.items i
      ≡ tails_at l.fn.lists.items i ++ left_from (get_or l.slots.ranks i 0) l.tail.own l.tail.most (cells_of (drop l.place l.tail.cells.now));
}

abbrev pub decreases-loop-place : goal.decreases-loop-place
decreases-loop-place l = l.place
