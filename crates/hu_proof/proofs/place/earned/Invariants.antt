use Rattle.std.proofs.Common.{◌≡◌, drop, ◌<◌, ◌+◌, ◌^◌, ◌+ℤ◌, unsigned_abs, sum_by}
use Rattle.hu_kind.specs.Record.{absolute_of}
use Rattle.hu_proof.specs.Places.{earned, places_of}
use Rattle.hu_proof.proofs.place.earned.Given as goal

abbrev pub invariant-loop-place : goal.invariant-loop-place
invariant-loop-place l = record {
  sum : l.sum +ℤ earned (places_of (drop l.place-index l.places)) ≡ earned (places_of l.places);
  fits : unsigned_abs l.sum + sum_by (λ place. absolute_of place.0) (places_of (drop l.place-index l.places)) < 2 ^ 127;
}
