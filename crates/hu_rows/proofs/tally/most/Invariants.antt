use Rattle.std.proofs.Common.{◌≡◌, ◌≤◌, length, drop}
use Rattle.hu_kind.specs.Record.{gain}
use Rattle.hu_totals.specs.View.{cells_of}
use Rattle.hu_rows.proofs.tally.most.Given as goal

abbrev pub invariant-loop-place : goal.invariant-loop-place
invariant-loop-place l = record {
  within : l.place ≤ length l.row.cells.now;
  sum : l.sum ≡ gain (cells_of (drop l.place l.row.cells.now));
}

abbrev pub decreases-loop-place : goal.decreases-loop-place
decreases-loop-place l = l.place
