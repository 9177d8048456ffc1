use Rattle.std.proofs.Common.{◌≡◌, map, take}
use Rattle.std.specs.List.{flat_map}
use Rattle.hu_kind.specs.Record.{items_in}
use Rattle.hu_totals.specs.View.{pairs_in}
use Rattle.hu_raise.proofs.rests.ranks_of.Given as goal

abbrev pub invariant-loop-record : goal.invariant-loop-record
invariant-loop-record l = l.ranks.items ≡ flat_map items_in (map pairs_in (take l.record-index l.records))
