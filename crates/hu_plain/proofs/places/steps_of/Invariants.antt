use Rattle.std.proofs.Common.{◌≡◌, take, flat_map}
use Rattle.hu_plain.specs.View.{numbers_of}
use Rattle.hu_plain.specs.PlaceView.{all_places, following, joining}
use Rattle.hu_plain.proofs.places.steps_of.Given as goal

abbrev pub invariant-loop-places : goal.invariant-loop-places
invariant-loop-places l = record {
  join : numbers_of l.joining.items ≡ flat_map joining (all_places (take l.places-index l.rows));
  follow : numbers_of l.following.items ≡ flat_map following (all_places (take l.places-index l.rows));
}
