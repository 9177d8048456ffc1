use Rattle.std.proofs.Common.{◌≡◌, ◌+◌, ◌-◌, ◌*◌, length}
use Rattle.hu_project.specs.Level.{IsBoard, IsSoFar}
use Rattle.hu_project.proofs.search.+search.Given as goal

-- a search by one rank more comes after an entrance to it
abbrev pub decreases-search : goal.decreases-search
decreases-search g l = 2 * (length l.walk.now.ranked.now.items - length l.ranks.now.items) + 1

abbrev pub decreases-enter : goal.decreases-enter
decreases-enter g l = 2 * (length l.walk.now.ranked.now.items - length l.ranks.now.items)

abbrev pub invariant-search-children : goal.invariant-search-children
invariant-search-children g l = record {
  ranks : l.ranks.items ≡ l.fn.ranks.items;
  board : IsBoard (length l.walk.ranked.now.items) l.board;
  made : IsSoFar (g.C.Collect.state l.fn.collect) (g.C.Collect.state l.collect) l.walk.ranked.now l.fn.ranks.items l.open l.at;
}
