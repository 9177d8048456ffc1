use Rattle.std.proofs.Common.{◌≡◌, ℕ, ◌++◌, length, take}
use Rattle.hu_certify.specs.Slots.{kept, list_at}
use Rattle.hu_certify.specs.Spots.{narrowed, spots_of}
use Rattle.hu_certify.proofs.lists.hand_out.Given as goal

abbrev pub invariant-loop-place : goal.invariant-loop-place
invariant-loop-place l = record {
  len : length l.lists.items ≡ length l.fn.lists.items;
  lists : (z : ℕ) → list_at l.lists.items z
      ≡ list_at l.fn.lists.items z ++ kept l.least l.slots z (narrowed z (spots_of (take l.place-index l.places)));
}
