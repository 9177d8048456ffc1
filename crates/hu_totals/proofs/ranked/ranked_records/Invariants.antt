use Rattle.std.proofs.Common.{◌≡◌, map, take}
use Rattle.std.specs.List.{AllByRecursion}
use Rattle.hu_kind.specs.Record.{IsRecord}
use Rattle.hu_totals.specs.Ranked.{over_ranks}
use Rattle.hu_totals.specs.View.{pairs_in}
use Rattle.hu_totals.specs.Weights.{numbers_of}
use Rattle.hu_totals.proofs.ranked.ranked_records.Given as goal

abbrev pub invariant-loop-record : goal.invariant-loop-record
invariant-loop-record l = record {
  value : map pairs_in l.ranked.items ≡ over_ranks (numbers_of l.items.keys) (take l.record-index l.records);
  rules : AllByRecursion IsRecord (take l.record-index l.records);
}
