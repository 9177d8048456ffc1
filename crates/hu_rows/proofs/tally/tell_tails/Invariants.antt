use Rattle.std.proofs.Common.{◌≡◌, ◌≤◌, length, drop}
use Rattle.hu_kind.specs.Record.{gain}
use Rattle.hu_totals.specs.View.{cells_of}
use Rattle.hu_rows.specs.Tally.{tail_share, Adds}
use Rattle.hu_rows.specs.View.{row_of}
use Rattle.hu_rows.proofs.TallyLemmas.{told_by}
use Rattle.hu_rows.proofs.tally.tell_tails.Given as goal

abbrev pub invariant-loop-place : goal.invariant-loop-place
invariant-loop-place l = record {
  within : l.place ≤ length l.row.cells.now;
  len : length l.tallies.items ≡ length l.initial.tallies.items;
  rest : l.rest ≡ gain (cells_of (drop l.place l.row.cells.now));
  value : Adds (told_by (tail_share (row_of l.row)) (drop l.place l.row.cells.now)) l.initial.tallies.items l.tallies.items;
}

abbrev pub decreases-loop-place : goal.decreases-loop-place
decreases-loop-place l = l.place
