use Rattle.std.proofs.Common.{◌≡◌, ◌<◌, ◌≤◌, ◌+ℤ◌, ℕ, pos, length, drop}
use Rattle.hu_proof.specs.Slots.{bound_at, gain_in, gained}
use Rattle.hu_proof.proofs.slots.add_values.Given as goal

abbrev pub invariant-values : goal.invariant-values
invariant-values l = record {
  within : l.i ≤ length l.values;
  len : length l.bounds.items ≡ length l.fn.bounds.items;
  gain : l.gain ≡ pos (gain_in (drop l.i l.values));
  added : (slot : ℕ) → slot < length l.fn.bounds.items → bound_at l.bounds.items slot
      ≡ bound_at l.fn.bounds.items slot +ℤ pos (gained l.own slot (drop l.i l.values));
}

abbrev pub decreases-values : goal.decreases-values
decreases-values l = l.i
