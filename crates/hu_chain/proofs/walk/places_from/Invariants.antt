use Rattle.std.proofs.Common.{◌≡◌, ◌++◌, drop}
use Rattle.std.specs.List.{AllByRecursion}
use Rattle.hu_chain.specs.Bound.{IsFit}
use Rattle.hu_chain.specs.Search.{walked, IsWalk}
use Rattle.hu_chain.proofs.walk.places_from.Given as goal

abbrev pub invariant-loop-number : goal.invariant-loop-number
invariant-loop-number l = record {
  so_far : l.places.items ++ walked l.item.0 l.number l.walk.best l.walk.left.now (drop l.number l.elements)
      ≡ walked l.item.0 l.first l.initial.walk.best l.initial.walk.left.now (drop l.first l.elements);
  rules : IsWalk l.elements l.number l.walk;
  fit : AllByRecursion IsFit l.places.items;
}
