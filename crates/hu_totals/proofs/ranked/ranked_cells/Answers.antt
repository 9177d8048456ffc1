use Rattle.std.proofs.Common.{rules}
use Rattle.std.proofs.lemmas.List.Sorted.{IsNonDecreasingBy-from_sort_by_key}
use Rattle.hu_totals.specs.Weights.{numbers_of}
use Rattle.hu_totals.proofs.lemmas.SortedLists.{Once-from_distinct}
use Rattle.hu_totals.proofs.lemmas.DenseLemmas.{sorted-dense}
use Rattle.hu_totals.proofs.ranked.ranked_cells.Goals as goal

pub returns : goal.returns
returns c = record {
  value = sorted-dense (numbers_of c.args.items.now.keys) _ _ _
      (Once-from_distinct _ c.requires.apart) c.requires.ascending c.in_ok-ranked.ensures
      c.sort_unstable_by_key.ensures.permutation
      (IsNonDecreasingBy-from_sort_by_key (λ cell. cell.rank) _ c.sort_unstable_by_key.ensures.sorted (λ a r q k. search rules));
}
