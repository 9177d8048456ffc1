use Rattle.std.proofs.Common.{◌≡◌, take, flat_map}
use Rattle.hu_kind.specs.Record.{items_in}
use Rattle.hu_proof.proofs.order.occurring_items.Given as goal

abbrev pub invariant-loop-record : goal.invariant-loop-record
invariant-loop-record l = l.numbers.items ≡ flat_map items_in (take l.record-index l.records)
