use Rattle.std.proofs.Common.{◌≡◌, ◌+◌, ◌-◌, ◌*◌, length}
use Rattle.hu_list.specs.Board.{HasRoom}
use Rattle.hu_list.proofs.SearchLemmas.{next}
use Rattle.hu_list.proofs.TurnLemmas.{IsSoFar}
use Rattle.hu_list.proofs.search.+search.Given as goal

-- a search comes after the entry of a set with more ranks before it, and before that of one with fewer
abbrev pub decreases-enter : goal.decreases-enter
decreases-enter g l = 2 * (length l.walk.now.ranked.now.items - (l.child.now.rank + 1)) + 1

abbrev pub decreases-search : goal.decreases-search
decreases-search g l = 2 * (length l.walk.now.ranked.now.items - next l.ranks.now.items)

abbrev pub invariant-search-chosen : goal.invariant-search-chosen
invariant-search-chosen g l = record {
  ranks : l.ranks.items ≡ l.fn.ranks.items;
  room : HasRoom l.board (length l.walk.ranked.now.items);
  so_far : IsSoFar (g.C.Collect.state l.fn.collect) (g.C.Collect.state l.collect) l.walk.ranked.now l.fn.ranks.items
      l.later.items l.child-items l.lists.items l.at;
}
