use Rattle.std.proofs.Common.{◌≡◌, take}
use Rattle.std.specs.List.{AllByRecursion}
use Rattle.hu_plain.specs.Place.{IsAscending, first_places}
use Rattle.hu_plain.specs.PlaceView.{places_of}
use Rattle.hu_plain.proofs.places.first_places.Given as goal

abbrev pub invariant-loop-element : goal.invariant-loop-element
invariant-loop-element l = record {
  so_far : places_of l.places.items ≡ first_places (take l.element-index l.element-items);
  ascending : AllByRecursion IsAscending (places_of l.places.items);
}
