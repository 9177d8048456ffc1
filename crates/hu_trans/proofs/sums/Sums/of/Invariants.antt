use Rattle.std.proofs.Common.{◌≡◌, ◌+◌, ◌<◌, ◌≤◌, ◌^◌, ◌+ℤ◌, unsigned_abs, drop}
use Rattle.hu_kind.specs.Cell.{pairs_of}
use Rattle.hu_kind.specs.Record.{absolute_of, total, gain}
use Rattle.hu_trans.proofs.sums.Sums.of.Given as goal

abbrev pub invariant-loop-cell : goal.invariant-loop-cell
invariant-loop-cell l = record {
  small : l.absolute < 2 ^ 127;
  plain_within : unsigned_abs l.plain ≤ l.absolute;
  positive_within : unsigned_abs l.positive ≤ l.absolute;
  absolute_so_far : l.absolute + absolute_of (pairs_of (drop l.cell-index l.cells)) ≡ absolute_of (pairs_of l.cells);
  plain_so_far : (l.plain +ℤ total (pairs_of (drop l.cell-index l.cells))) ≡ total (pairs_of l.cells);
  positive_so_far : (l.positive +ℤ gain (pairs_of (drop l.cell-index l.cells))) ≡ gain (pairs_of l.cells);
}
