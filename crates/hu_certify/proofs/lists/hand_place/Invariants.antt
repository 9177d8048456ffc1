use Rattle.std.proofs.Common.{◌≡◌, ℕ, ◌++◌, drop, length, map}
use Rattle.hu_totals.specs.View.{dense_pair}
use Rattle.hu_certify.specs.Slots.{kept, list_at}
use Rattle.hu_certify.specs.Spots.{grown, spot_of}
use Rattle.hu_certify.proofs.lists.hand_place.Given as goal

abbrev pub invariant-loop-at : goal.invariant-loop-at
invariant-loop-at l = record {
  len : length l.lists.items ≡ length l.fn.lists.items;
  lists : (z : ℕ) → list_at l.lists.items z ++ kept l.least l.slots z (grown z (map dense_pair (drop l.at l.place.rest.now), l.place.own))
      ≡ list_at l.fn.lists.items z ++ kept l.least l.slots z (grown z (spot_of l.place));
}
