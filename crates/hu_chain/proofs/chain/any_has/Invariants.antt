use Rattle.std.proofs.Common.{◌≡◌, drop}
use Rattle.std.specs.List.{list_any}
use Rattle.hu_kind.specs.Record.{has}
use Rattle.hu_chain.proofs.chain.any_has.Given as goal

abbrev pub invariant-loop-number : goal.invariant-loop-number
invariant-loop-number l = list_any (has l.item.0) (drop l.number l.elements) ≡ list_any (has l.item.0) (drop l.first l.elements)
