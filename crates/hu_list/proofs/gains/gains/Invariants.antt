use Rattle.std.proofs.Common.{◌≡◌, ◌<◌, ◌+◌, ◌^◌, ℕ, pos, unsigned_abs, length, drop, sum_by}
use Rattle.hu_search.specs.Slots.{at}
use Rattle.hu_list.specs.Tails.{size_of}
use Rattle.hu_list.specs.Passes.{met_in, gaining}
use Rattle.hu_list.specs.View.{tails_of}
use Rattle.hu_list.proofs.gains.gains.Given as goal

abbrev pub invariant-loop-tail : goal.invariant-loop-tail
invariant-loop-tail l = record {
  room : l.found.room ≡ l.fn.found.room;
  len : length l.gains.items ≡ length l.found.ranks;
  fits : (z : ℕ) → unsigned_abs (at (pos 0) l.found.ranks l.gains.items z) + sum_by size_of (tails_of (drop l.tail-index l.tails)) < 2 ^ 127;
  gains : (z : ℕ) → met_in (gaining l.kept.ranks) z (tails_of (drop l.tail-index l.tails)) (at (pos 0) l.found.ranks l.gains.items z)
      ≡ met_in (gaining l.kept.ranks) z (tails_of l.tails) (pos 0);
}
