use Rattle.std.proofs.Common.{◌≡◌, ◌<◌, ◌+◌, ◌^◌, ◌+ℤ◌, ℕ, unsigned_abs, length, drop, sum_by}
use Rattle.hu_kind.specs.Record.{absolute_of}
use Rattle.hu_proof.specs.Places.{places_of}
use Rattle.hu_proof.specs.Slots.{bound_at, shares_at}
use Rattle.hu_proof.proofs.slots.bounds.Given as goal

abbrev pub invariant-loop-place : goal.invariant-loop-place
invariant-loop-place l = record {
  len : length l.bounds.items ≡ length l.named;
  value : (slot : ℕ) → slot < length l.named → bound_at l.bounds.items slot +ℤ shares_at l.named (places_of (drop l.place-index l.places)) slot
      ≡ shares_at l.named (places_of l.places) slot;
  fits : (slot : ℕ) → slot < length l.named → unsigned_abs (bound_at l.bounds.items slot)
      + sum_by (λ place. absolute_of place.0) (places_of (drop l.place-index l.places)) < 2 ^ 127;
}
