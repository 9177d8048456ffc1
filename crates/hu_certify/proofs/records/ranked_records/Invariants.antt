use Rattle.std.proofs.Common.{◌≡◌, map, take}
use Rattle.std.specs.List.{AllByRecursion}
use Rattle.hu_kind.specs.Record.{IsRecord}
use Rattle.hu_totals.specs.Ranked.{cells_from}
use Rattle.hu_totals.specs.View.{pairs_in}
use Rattle.hu_totals.specs.Weights.{numbers_of}
use Rattle.hu_certify.proofs.records.ranked_records.Given as goal

abbrev pub invariant-loop-record : goal.invariant-loop-record
invariant-loop-record l = record {
  value : map pairs_in l.ranked.items ≡ map (cells_from 0 (numbers_of l.items.keys)) (take l.record-index l.records);
  rules : AllByRecursion IsRecord (take l.record-index l.records);
}
