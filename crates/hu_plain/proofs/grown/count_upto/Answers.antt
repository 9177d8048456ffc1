use Rattle.std.proofs.Common.{leb, rules}
use Rattle.std.proofs.lemmas.List.Sorted.{IsPartitionPoint-from_clause, IsPartitionedBy-leb}
use Rattle.std.proofs.lemmas.Bool.{leb-true, leb-false}
use Rattle.hu_plain.specs.declared.grown.Grown.{Grown}
use Rattle.hu_plain.proofs.grown.count_upto.Goals as goal

pub returns-clause-splits : goal.returns-clause-splits
returns-clause-splits c =
    let grown = c.args.grown.now in
    let number = c.args.item.0 in
    let split = IsPartitionPoint-from_clause (λ (one : Grown). leb one.item.0 number) grown c.partition_point.result c.partition_point.ensures.partitioned
    (IsPartitionedBy-leb (λ (one : Grown). one.item.0) grown number c.requires)
    (λ a r f' called. search rules) in
    (λ k d low high. leb-true _ number (split.0 k d low high), λ k d low high. leb-false _ number (split.1 k d low high))
