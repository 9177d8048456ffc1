use Rattle.std.proofs.Common.{◌≡◌, drop}
use Rattle.hu_kind.specs.Sequence.{better}
use Rattle.hu_plain.specs.Place.{best_of}
use Rattle.hu_plain.specs.PlaceView.{places_of}
use Rattle.hu_plain.proofs.places.best_of.Given as goal

abbrev pub invariant-loop-place : goal.invariant-loop-place
invariant-loop-place l = better l.best (best_of (places_of (drop l.place-index l.places))) ≡ best_of (places_of l.places)
