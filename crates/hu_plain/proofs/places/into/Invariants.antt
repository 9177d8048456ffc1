use Rattle.std.proofs.Common.{◌≡◌, drop}
use Rattle.hu_plain.specs.Place.{begun, into}
use Rattle.hu_plain.specs.PlaceView.{places_of}
use Rattle.hu_plain.proofs.PlaceLemmas.{joined}
use Rattle.hu_plain.proofs.places.into.Given as goal

abbrev pub invariant-loop-place : goal.invariant-loop-place
invariant-loop-place l =
    joined (places_of l.grown.items) (into l.item.0 (places_of (drop l.place-index l.places)))
    ≡ begun (into l.item.0 (places_of l.places))
