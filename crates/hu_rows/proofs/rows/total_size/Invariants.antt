use Rattle.std.proofs.Common.{◌≡◌, ◌<◌, ◌^◌, take, sum_by}
use Rattle.hu_rows.specs.Rows.{size_of}
use Rattle.hu_rows.specs.View.{row_of}
use Rattle.hu_rows.proofs.rows.total_size.Given as goal

abbrev pub invariant-loop-row : goal.invariant-loop-row
invariant-loop-row l = record {
  value : l.total ≡ sum_by (λ row. size_of (row_of row)) (take l.row-index l.rows);
  fits : l.total < 2 ^ 127;
}
