use Rattle.std.proofs.Common.{◌≡◌, ◌++◌, drop}
use Rattle.std.specs.List.{AllByRecursion}
use Rattle.hu_chain.specs.Bound.{IsFit}
use Rattle.hu_chain.specs.Search.{joined_places}
use Rattle.hu_chain.proofs.chain.joined.Given as goal

abbrev pub invariant-loop-place : goal.invariant-loop-place
invariant-loop-place l = record {
  so_far : l.grown.items ++ joined_places l.elements l.item.0 (drop l.place-index l.places) ≡ joined_places l.elements l.item.0 l.places;
  fit : AllByRecursion IsFit l.grown.items;
}
