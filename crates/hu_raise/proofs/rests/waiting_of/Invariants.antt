use Rattle.std.proofs.Common.{◌≡◌, [], map, take, drop, fold, replicate}
use Rattle.std.specs.List.{flat_map}
use Rattle.hu_kind.specs.Record.{items_in}
use Rattle.hu_totals.specs.View.{pairs_in}
use Rattle.hu_raise.specs.Rests.{handed, rest_from}
use Rattle.hu_raise.specs.View.{waiting_in}
use Rattle.hu_raise.proofs.rests.waiting_of.Given as goal

abbrev pub invariant-loop-record : goal.invariant-loop-record
invariant-loop-record l = record {
  left : l.left ≡ flat_map items_in (drop l.record-index (map pairs_in l.records));
  waits : waiting_in l.waiting.items ≡ fold handed (replicate l.ranks []) (map rest_from (take l.record-index (map pairs_in l.records)));
}
