use Rattle.std.proofs.Common.{◌≡◌, take}
use Rattle.std.specs.List.{fold}
use Rattle.hu_rows.specs.Merging.{added}
use Rattle.hu_rows.specs.View.{row_of, rows_of, sum_of}
use Rattle.hu_rows.proofs.merge.merge_run.Given as goal

abbrev pub invariant-loop-row : goal.invariant-loop-row
invariant-loop-row l = sum_of l.sum ≡ fold added (row_of l.first) (rows_of (take l.row-index l.rest))
