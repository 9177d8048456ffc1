use Rattle.std.proofs.Common.{◌≡◌, ◌+◌, ◌*◌, length}
use Rattle.hu_average.proofs.TurnLemmas.{IsSoFar}
use Rattle.hu_average.proofs.search.+search.Given as goal

-- a search comes after the entry of a child with as many later ranks, and that after a search over more of them
abbrev pub decreases-enter : goal.decreases-enter
decreases-enter l = 2 * length l.later.now + 1

abbrev pub decreases-search : goal.decreases-search
decreases-search l = 2 * length l.later.now

abbrev pub invariant-search-lists : goal.invariant-search-lists
invariant-search-lists l = record {
  ranks : l.ranks.items ≡ l.fn.ranks.items;
  room : l.slots.room ≡ l.fn.slots.room;
  so_far : IsSoFar l.fn.best l.best l.walk.ranked.now l.fn.ranks.items l.entered.items l.list-items l.at;
}
