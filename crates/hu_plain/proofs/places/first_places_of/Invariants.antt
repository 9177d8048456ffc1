use Rattle.std.proofs.Common.{◌≡◌, map, take}
use Rattle.std.specs.List.{AllByRecursion}
use Rattle.hu_plain.specs.Place.{AreAscending, first_places}
use Rattle.hu_plain.specs.PlaceView.{all_places}
use Rattle.hu_plain.proofs.places.first_places_of.Given as goal

abbrev pub invariant-loop-record : goal.invariant-loop-record
invariant-loop-record l = record {
  so_far : all_places l.rows.items ≡ map first_places (take l.record-index l.records);
  ascending : AllByRecursion AreAscending (all_places l.rows.items);
}
