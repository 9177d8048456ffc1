use Rattle.std.proofs.Common.{◌≡◌, ◌≤◌, ◌-◌, ◌++◌, length, drop}
use Rattle.hu_rows.specs.Merging.{merged}
use Rattle.hu_rows.specs.View.{rows_of}
use Rattle.hu_rows.proofs.merge.merge_sorted.Given as goal

abbrev pub invariant-loop-start : goal.invariant-loop-start
invariant-loop-start l = record {
  within : l.start ≤ length l.rows;
  value : rows_of l.merged.items ++ merged (rows_of (drop l.start l.rows)) ≡ merged (rows_of l.rows);
}

abbrev pub decreases-loop-start : goal.decreases-loop-start
decreases-loop-start l = length l.rows - l.start
