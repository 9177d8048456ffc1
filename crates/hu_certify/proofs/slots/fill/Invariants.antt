use Rattle.std.proofs.Common.{◌≡◌, ℕ, length, take}
use Rattle.hu_certify.specs.Slots.{slot_of, slot_over, AreMet}
use Rattle.hu_certify.specs.Spots.{spots_of}
use Rattle.hu_certify.proofs.slots.fill.Given as goal

abbrev pub invariant-loop-place : goal.invariant-loop-place
invariant-loop-place l = record {
  len : length l.slots.items ≡ length l.fn.slots.items;
  slots : (z : ℕ) → slot_of l.slots.items z ≡ slot_over (spots_of (take l.place-index l.places)) z;
  met : AreMet l.ranks.items l.slots.items;
}
