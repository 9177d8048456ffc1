use Rattle.std.proofs.Common.{◌≡◌, map, take}
use Rattle.std.specs.List.{AllByRecursion}
use Rattle.hu_plain.specs.Row.{IsRising}
use Rattle.hu_plain.specs.View.{rows_of, first_row}
use Rattle.hu_plain.proofs.row.first_rows.Given as goal

abbrev pub invariant-loop-record : goal.invariant-loop-record
invariant-loop-record l = record {
  so_far : rows_of l.rows.items ≡ map first_row (take l.record-index l.records);
  rising : AllByRecursion IsRising (rows_of l.rows.items);
}
