use Rattle.std.proofs.Common.{◌≡◌, ℕ, ◌<◌, length, get_or, take}
use Rattle.hu_average.specs.Tails.{grown, tails_of, tails_at}
use Rattle.hu_average.proofs.grow.grown.Given as goal

abbrev pub invariant-loop-tail : goal.invariant-loop-tail
invariant-loop-tail l = record {
  len : length l.lists.items ≡ length l.slots.ranks;
  lists : (i : ℕ) → i < length l.slots.ranks → tails_at l.lists.items i ≡ grown (get_or l.slots.ranks i 0) (tails_of (take l.tail-index l.tails));
}
