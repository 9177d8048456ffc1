use Rattle.std.proofs.Common.{◌≡◌, take}
use Rattle.hu_plain.specs.Place.{all_stepped}
use Rattle.hu_plain.specs.PlaceView.{all_places}
use Rattle.hu_plain.proofs.places.all_stepped.Given as goal

abbrev pub invariant-loop-places : goal.invariant-loop-places
invariant-loop-places l = all_places l.grown.items ≡ all_stepped l.step (all_places (take l.places-index l.rows))
