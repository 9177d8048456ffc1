use Rattle.std.proofs.Common.{ltb, rules}
use Rattle.std.proofs.lemmas.List.Sorted.{IsPartitionPoint-from_clause, IsPartitionedBy-ltb}
use Rattle.std.proofs.lemmas.Bool.{ltb-true, ltb-false}
use Rattle.hu_kind.proofs.cells.cells_below.Goals as goal
use Rattle.hu_kind.proofs.lemmas.CellPlaces.{IsNonDecreasingBy-ascend}

pub returns-clause-splits : goal.returns-clause-splits
returns-clause-splits c =
    let cells = c.args.cells.now in
    let number = c.args.item.0 in
    let split = IsPartitionPoint-from_clause (λ cell. ltb cell.item.0 number) cells c.partition_point.result c.partition_point.ensures.partitioned
    (IsPartitionedBy-ltb (λ cell. cell.item.0) cells number (IsNonDecreasingBy-ascend cells c.requires))
    (λ a r f' called. search rules) in
    (λ k d low high. ltb-true _ number (split.0 k d low high), λ k d low high. ltb-false _ number (split.1 k d low high))
