use Rattle.std.proofs.Common.{◌≡◌, map, take}
use Rattle.std.specs.List.{AllByRecursion}
use Rattle.hu_kind.specs.Record.{items_in, IsRecord}
use Rattle.hu_closed.specs.Holders.{lists_of}
use Rattle.hu_closed.proofs.sets.item_lists.Given as goal

abbrev pub invariant-loop-record : goal.invariant-loop-record
invariant-loop-record l = record {
  value : lists_of l.lists.items ≡ map items_in (take l.record-index l.records);
  rules : AllByRecursion IsRecord (take l.record-index l.records);
}
