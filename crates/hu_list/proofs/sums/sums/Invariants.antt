use Rattle.std.proofs.Common.{◌≡◌, ◌<◌, ◌≤◌, ◌+◌, ◌^◌, ℕ, unsigned_abs, length, drop, sum_by}
use Rattle.hu_search.specs.Slots.{at}
use Rattle.hu_list.specs.Tails.{size_of}
use Rattle.hu_list.specs.Passes.{met_in, summing, no_sum}
use Rattle.hu_list.specs.View.{tails_of}
use Rattle.hu_list.proofs.sums.sums.Given as goal

abbrev pub invariant-loop-tail : goal.invariant-loop-tail
invariant-loop-tail l = record {
  len : length l.sums.items ≡ length l.slots.ranks;
  support : (z : ℕ) → (at no_sum l.slots.ranks l.sums.items z).support ≤ l.tail-index;
  utility : (z : ℕ) → unsigned_abs (at no_sum l.slots.ranks l.sums.items z).utility + sum_by size_of (tails_of (drop l.tail-index l.tails)) < 2 ^ 127;
  bound : (z : ℕ) → unsigned_abs (at no_sum l.slots.ranks l.sums.items z).bound + sum_by size_of (tails_of (drop l.tail-index l.tails)) < 2 ^ 127;
  sums : (z : ℕ) → met_in (summing l.slots.ranks) z (tails_of (drop l.tail-index l.tails)) (at no_sum l.slots.ranks l.sums.items z)
      ≡ met_in (summing l.slots.ranks) z (tails_of l.tails) no_sum;
}
