use Rattle.std.proofs.Common.{rules}
use Rattle.std.proofs.lemmas.List.Sorted.{ranks_by, answers_always}
use Rattle.hu_rows.specs.View.{row_of, row_below}
use Rattle.hu_rows.proofs.MergingLemmas.{row_cmp_total}
use Rattle.hu_rows.proofs.merge.put_in_order.Goals as goal

pub returns-then-not-is_in_order-clause-sorted : goal.returns-then-not-is_in_order-clause-sorted
returns-then-not-is_in_order-clause-sorted c =
    c.sort_unstable_by.ensures.sorted row_below (ranks_by row_cmp_total row_of) (answers_always _ _ _ (λ f a r f' k. search rules))
