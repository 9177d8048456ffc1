use Rattle.std.proofs.Common.{◌≡◌, ◌+◌, ◌<◌, ◌^◌, pos, unsigned_abs, take, sum_by}
use Rattle.hu_kind.specs.Cell.{absolute_value}
use Rattle.hu_kind.proofs.record.sum_after.Given as goal

abbrev pub invariant-loop-cell : goal.invariant-loop-cell
invariant-loop-cell l = record {
  so_far : l.after ≡ pos (unsigned_abs l.sum + sum_by absolute_value (take l.cell-index l.cells));
  fits : unsigned_abs l.sum + sum_by absolute_value (take l.cell-index l.cells) < 2 ^ 127;
}
