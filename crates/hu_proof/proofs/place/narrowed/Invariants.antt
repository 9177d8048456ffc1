use Rattle.std.proofs.Common.{◌≡◌, take}
use Rattle.hu_proof.specs.Places.{narrowed, places_of}
use Rattle.hu_proof.proofs.place.narrowed.Given as goal

abbrev pub invariant-loop-place : goal.invariant-loop-place
invariant-loop-place l = places_of l.narrow.items ≡ narrowed l.item.0 (places_of (take l.place-index l.places))
