use Rattle.std.proofs.Common.{◌≡◌, map, take, slice_index}
use Rattle.hu_kind.specs.declared.item.Item.{Item}
use Rattle.hu_search.proofs.key.items_of.Given as goal

abbrev pub invariant-loop-rank : goal.invariant-loop-rank
invariant-loop-rank l = map (λ (item : Item). item.0) l.items.items ≡ map (λ rank. slice_index l.ranked.items rank) (take l.rank-index l.ranks)
