use Rattle.std.proofs.Common.{◌≡◌, ℕ, length, take}
use Rattle.hu_rows.specs.Tally.{tally_at, told, AreNoted}
use Rattle.hu_rows.specs.View.{rows_of}
use Rattle.hu_rows.proofs.tally.tell_rows.Given as goal

abbrev pub invariant-loop-row : goal.invariant-loop-row
invariant-loop-row l = record {
  len : length l.tallies.items ≡ length l.initial.tallies.items;
  value : (rank : ℕ) → tally_at l.tallies.items rank ≡ told (rows_of (take l.row-index l.rows)) rank;
  noted : AreNoted l.tallies.items l.met.items;
}
