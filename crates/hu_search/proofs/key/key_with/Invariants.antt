use Rattle.std.proofs.Common.{◌≡◌, map, take, pos}
use Rattle.hu_kind.specs.declared.item.Item.{Item}
use Rattle.hu_search.proofs.key.key_with.Given as goal

abbrev pub invariant-loop-item : goal.invariant-loop-item
invariant-loop-item l = l.key ≡ map (λ (item : Item). pos item.0) (take l.item-index l.items)
