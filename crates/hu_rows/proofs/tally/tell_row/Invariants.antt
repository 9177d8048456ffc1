use Rattle.std.proofs.Common.{◌≡◌, ◌≤◌, length, drop}
use Rattle.hu_rows.specs.Tally.{row_share, Adds, AreNoted}
use Rattle.hu_rows.specs.View.{row_of}
use Rattle.hu_rows.proofs.TallyLemmas.{told_by}
use Rattle.hu_rows.proofs.tally.tell_row.Given as goal

abbrev pub invariant-loop-place : goal.invariant-loop-place
invariant-loop-place l = record {
  within : l.place ≤ length l.row.cells.now;
  len : length l.tallies.items ≡ length l.initial.tallies.items;
  value : Adds (told_by (row_share (row_of l.row)) (drop l.place l.row.cells.now)) l.initial.tallies.items l.tallies.items;
  noted : AreNoted l.tallies.items l.met.items;
}

abbrev pub decreases-loop-place : goal.decreases-loop-place
decreases-loop-place l = l.place
