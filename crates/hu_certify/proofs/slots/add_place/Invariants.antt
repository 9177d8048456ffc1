use Rattle.std.proofs.Common.{◌≡◌, ℕ, ◌-◌, drop, length, map}
use Rattle.hu_kind.specs.Record.{gain}
use Rattle.hu_totals.specs.View.{dense_pair}
use Rattle.hu_certify.specs.Slots.{slot_of, with_spot, AreMet}
use Rattle.hu_certify.proofs.slots.add_place.Given as goal

abbrev pub invariant-loop-back : goal.invariant-loop-back
invariant-loop-back l = record {
  len : length l.slots.items ≡ length l.fn.slots.items;
  rest : l.rest ≡ gain (map dense_pair (drop (length l.place.rest.now - l.back) l.place.rest.now));
  slots : (z : ℕ) → slot_of l.slots.items z
      ≡ with_spot z (map dense_pair (drop (length l.place.rest.now - l.back) l.place.rest.now), l.place.own) (slot_of l.fn.slots.items z);
  met : AreMet l.ranks.items l.slots.items;
}
