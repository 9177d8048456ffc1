use Rattle.std.proofs.Common.{◌≡◌, ℕ, [], length, drop}
use Rattle.hu_totals.specs.View.{cells_of}
use Rattle.hu_search.specs.Slots.{at}
use Rattle.hu_list.specs.Passes.{met, growing}
use Rattle.hu_list.specs.View.{tail_of, lists_of}
use Rattle.hu_list.proofs.grow.add_tails.Given as goal

abbrev pub invariant-loop-at : goal.invariant-loop-at
invariant-loop-at l = record {
  len : length l.lists.items ≡ length l.slots.ranks;
  lists : (z : ℕ) → met (growing l.slots.ranks (tail_of l.tail)) z (cells_of (drop l.at l.tail.cells.now)) (at [] l.slots.ranks (lists_of l.lists.items) z)
      ≡ met (growing l.slots.ranks (tail_of l.tail)) z (tail_of l.tail).cells (at [] l.slots.ranks (lists_of l.fn.lists.items) z);
}
