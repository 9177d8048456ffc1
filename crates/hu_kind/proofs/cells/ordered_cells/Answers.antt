use Rattle.std.proofs.Common.{refl}
use Rattle.std.proofs.lemmas.List.Sorted.{IsPermutation-refl}
use Rattle.hu_kind.proofs.lemmas.CellsLemmas.{twice-ascending, items-strictly, by_item-ordered}
use Rattle.hu_kind.proofs.cells.ordered_cells.Goals as goal

pub returns-then-ascends-clause-value : goal.returns-then-ascends-clause-value
returns-then-ascends-clause-value c =
    let ascending = rw c.deref.ensures.value at (c.if-ascends.ensures.0 refl) in
    by_item-ordered c.args.cells.items c.args.cells.items (IsPermutation-refl c.args.cells.items) ascending

pub returns-then-ascends-clause-once : goal.returns-then-ascends-clause-once
returns-then-ascends-clause-once c =
    let ascending = rw c.deref.ensures.value at (c.if-ascends.ensures.0 refl) in
    twice-ascending _ _ (IsPermutation-refl _) (items-strictly c.args.cells.items ascending)
