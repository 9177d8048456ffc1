use Rattle.std.proofs.Common.{◌≡◌, ◌+◌, ◌<◌, ◌^◌, take, sum_by, unsigned_abs}
use Rattle.hu_rows.proofs.rows.size_after.Given as goal

abbrev pub invariant-loop-cell : goal.invariant-loop-cell
invariant-loop-cell l = record {
  value : l.total ≡ l.sum + unsigned_abs l.row.before + sum_by (λ cell. unsigned_abs cell.value) (take l.cell-index l.row.cells.now);
  fits : l.total < 2 ^ 127;
}
