use Rattle.std.proofs.Common.{rules, pos, int_lt, arith}
use Rattle.std.proofs.lemmas.Int.{ints}
use Rattle.std.proofs.lemmas.List.Sorted.{IsPartitionPoint-from_clause}
use Rattle.hu_kind.specs.declared.item.Item.{Item}
use Rattle.hu_closed.proofs.Numbers.{IsPartitionedBy-items}
use Rattle.hu_closed.proofs.keys.place_of.Goals as goal

pub returns : goal.returns
returns c =
    let split =
    IsPartitionPoint-from_clause (λ (item : Item). int_lt (pos item.0) c.args.number) c.args.items.now
    c.partition_point.result c.partition_point.ensures.partitioned
    (IsPartitionedBy-items c.args.items.now c.args.number c.requires)
    (λ a r f' called. search rules) in
    (λ k d low high. let h = split.0 k d low high in grind (arith, ints), λ k d low high. let h = split.1 k d low high in grind (arith, ints))
