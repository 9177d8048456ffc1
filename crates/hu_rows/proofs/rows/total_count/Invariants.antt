use Rattle.std.proofs.Common.{◌≡◌, ◌<◌, ◌^◌, take, sum_by}
use Rattle.hu_rows.proofs.rows.total_count.Given as goal

abbrev pub invariant-loop-row : goal.invariant-loop-row
invariant-loop-row l = record {
  value : l.total ≡ sum_by (λ row. row.count) (take l.row-index l.rows);
  fits : l.total < 2 ^ 64;
}
