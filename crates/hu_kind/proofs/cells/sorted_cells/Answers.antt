use Rattle.std.proofs.Common.{rules}
use Rattle.std.proofs.lemmas.List.Sorted.{IsNonDecreasingBy-from_sort_by_key}
use Rattle.hu_kind.proofs.lemmas.CellsLemmas.{twice-IsFirstTwice, twice-ascending, items-permutation, items-strictly, by_item-ordered}
use Rattle.hu_kind.proofs.cells.sorted_cells.Goals as goal

pub repeated-requires : goal.repeated-requires
repeated-requires c =
    rw c.deref.ensures.value (IsNonDecreasingBy-from_sort_by_key (λ cell. cell.item.0) _ c.sort_unstable_by_key.ensures.sorted (λ a r q k. search rules))

pub returns-in-Some-clause-twice : goal.returns-in-Some-clause-twice
returns-in-Some-clause-twice c =
    let first = rw c.deref.ensures.value at c.in-Some.ensures in
    twice-IsFirstTwice _ _ c.in-Some.item.0 (items-permutation _ _ c.sort_unstable_by_key.ensures.permutation) first

pub returns-in-None-clause-value : goal.returns-in-None-clause-value
returns-in-None-clause-value c =
    let ascending = rw c.deref.ensures.value at c.in-None.ensures in
    by_item-ordered _ _ c.sort_unstable_by_key.ensures.permutation ascending

pub returns-in-None-clause-once : goal.returns-in-None-clause-once
returns-in-None-clause-once c =
    let ascending = rw c.deref.ensures.value at c.in-None.ensures in
    twice-ascending _ _ (items-permutation _ _ c.sort_unstable_by_key.ensures.permutation) (items-strictly _ ascending)
