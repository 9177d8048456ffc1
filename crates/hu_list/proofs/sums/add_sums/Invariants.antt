use Rattle.std.proofs.Common.{◌≡◌, ℕ, length, drop, ◌-◌}
use Rattle.hu_search.specs.Slots.{at}
use Rattle.hu_list.specs.Passes.{met, summing, no_sum}
use Rattle.hu_list.specs.View.{tail_of}
use Rattle.hu_totals.specs.Cells.{kept_gain}
use Rattle.hu_totals.specs.View.{cells_of}
use Rattle.hu_list.proofs.sums.add_sums.Given as goal

abbrev pub invariant-loop-back : goal.invariant-loop-back
invariant-loop-back l = record {
  len : length l.sums.items ≡ length l.slots.ranks;
  rest : l.rest ≡ kept_gain l.slots.ranks (cells_of (drop (length l.tail.cells.now - l.back) l.tail.cells.now));
  sums : (z : ℕ) → at no_sum l.slots.ranks l.sums.items z
      ≡ met (summing l.slots.ranks (tail_of l.tail)) z (cells_of
      (drop (length l.tail.cells.now - l.back) l.tail.cells.now)) (at no_sum l.slots.ranks l.fn.sums.items z);
}
