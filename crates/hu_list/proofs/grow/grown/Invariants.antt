use Rattle.std.proofs.Common.{◌≡◌, ℕ, [], length, drop}
use Rattle.hu_search.specs.Slots.{at}
use Rattle.hu_list.specs.Passes.{met_in, growing}
use Rattle.hu_list.specs.View.{tails_of, lists_of}
use Rattle.hu_list.proofs.grow.grown.Given as goal

abbrev pub invariant-loop-tail : goal.invariant-loop-tail
invariant-loop-tail l = record {
  len : length l.lists.items ≡ length l.slots.ranks;
  lists : (z : ℕ) → met_in (growing l.slots.ranks) z (tails_of (drop l.tail-index l.tails)) (at [] l.slots.ranks (lists_of l.lists.items) z)
      ≡ met_in (growing l.slots.ranks) z (tails_of l.tails) [];
}
