-- Rows put in order and made one: what sets earn stays, and no two have the same ranks.
use Rattle.std.proofs.Common.{◌≡◌, ℕ, suc, ◌+◌, ◌<◌, ◌≤◌, false, ℤ, ◌+ℤ◌, List, [], ◌∷◌, length, get_or, refl, sym, ap, ◌∙◌, subst, arith, sum_by, Result, IfOk}
use Rattle.std.specs.List.{AllByRecursion}
use Rattle.std.specs.List.Sorted.{IsPermutation, IsSortedBy}
use Rattle.std.specs.Ordering.{is_lt}
use Rattle.std.proofs.lemmas.Int.{ints}
use Rattle.std.proofs.lemmas.List.Sums.{sum_by-cons}
use Rattle.std.proofs.lemmas.Result.{IfOk-weaker}
use Rattle.std.proofs.lemmas.List.Sorted.{sum_by-IsPermutation, list_any-IsPermutation, Contains-permutation, IsPermutation-map, IsPermutation-sym}
use Rattle.std.proofs.lemmas.List.Sorted.{sorted_far, ranks_by}
use borrow.Author.Differences.{up, down}
use Rattle.hu_kind.specs.Order.{Ascend}
use Rattle.hu_kind.proofs.lemmas.Members.{Member, Contains-from_member, Member-from_contains, Member-flat_map, Member-from_flat_map}
use Rattle.hu_kind.proofs.lemmas.Occurring.{at_member, by_members}
use Rattle.hu_rows.specs.declared.rows.Row.{Row}
use Rattle.hu_rows.specs.Rows.{RowOf, AreRows, over, over_row, count_over, count_in, count_of, size_of, ranks_of, ranks_in}
use Rattle.hu_rows.specs.Merging.{row_cmp, merged, IsMerging}
use Rattle.hu_rows.specs.View.{row_of, rows_of, row_below}
use Rattle.hu_rows.proofs.CellChecks.{each-rows}
use Rattle.hu_rows.proofs.AddedCells.{over_row-added, count_in-added}
use Rattle.hu_rows.proofs.MergingLemmas.{row_cmp_total, Rising, sum_over-merged, sum_by-merged, list_any-merged, each-merged, AreApart-merged}
use Rattle.hu_rows.proofs.MergingLemmas.{AreRows-merged, counted-merged}
use Rattle.hu_rows.proofs.SumLemmas.{SameSums, AreSums-same}
use Rattle.hu_rows.specs.Sums.{sum_over}

-- ---- what rows add, in another order and merged

sum_over-parts : (f : RowOf → ℤ) (rows : List RowOf) → up (sum_over f rows) + sum_by (λ row. down (f row)) rows
    ≡ down (sum_over f rows) + sum_by (λ row. up (f row)) rows
sum_over-parts f [] = refl
sum_over-parts f (row ∷ rows) = omega (arith, ints, sum_by-cons (λ r. down (f r)) row rows, sum_by-cons (λ r. up (f r)) row rows, sum_over-parts f rows)

sum_over-permutation : (f : RowOf → ℤ) (rows others : List RowOf) → IsPermutation rows others → sum_over f others ≡ sum_over f rows
sum_over-permutation f rows others same = omega (
  arith,
  ints,
  sum_over-parts f rows,
  sum_over-parts f others,
  sum_by-IsPermutation (λ r. down (f r)) rows others same,
  sum_by-IsPermutation (λ r. up (f r)) rows others same,
)

SameSums-sorted : (rows sorted : List RowOf) → IsPermutation rows sorted → SameSums rows (merged sorted)
SameSums-sorted rows sorted same = record {
  worth = λ f adds. sum_over-merged f adds sorted ∙ sum_over-permutation f rows sorted same;
  number = λ f adds. sum_by-merged f adds sorted ∙ sum_by-IsPermutation f rows sorted same;
  any = λ p. list_any-merged p sorted ∙ sym (list_any-IsPermutation (λ row. p (ranks_of row)) rows sorted same);
}

over-sum : (set : List ℕ) (rows : List RowOf) → over rows set ≡ sum_over (over_row set) rows
over-sum set [] = refl
over-sum set (row ∷ rows) = ap (λ rest. over_row set row +ℤ rest) (over-sum set rows)

count_over-sum : (set : List ℕ) (rows : List RowOf) → count_over rows set ≡ sum_by (count_in set) rows
count_over-sum set [] = refl
count_over-sum set (row ∷ rows) = omega (arith, sum_by-cons (count_in set) row rows, count_over-sum set rows)

-- ---- the rules of rows in another order

Member-permutation : {A : Type 0} (xs ys : List A) (x : A) → IsPermutation xs ys → Member x ys → Member x xs
Member-permutation xs ys x same m = Member-from_contains x xs (Contains-permutation ys xs x (IsPermutation-sym xs ys same) (Contains-from_member x ys m))

pub AreRows-permutation : (rows others : List RowOf) → IsPermutation rows others → AreRows rows → AreRows others
AreRows-permutation rows others same rules = record {
  ascending = by_members (λ row. Ascend (ranks_of row)) others
      (λ row m. at_member (λ r. Ascend (ranks_of r)) row rows rules.ascending (Member-permutation rows others row same m));
  sizes = omega (arith, sum_by-IsPermutation size_of rows others same, rules.sizes);
  counts = omega (arith, sum_by-IsPermutation count_of rows others same, rules.counts);
}

-- ---- the ranks of merged rows

Member-merged : (rank : ℕ) (rows : List RowOf) → Member rank (ranks_in (merged rows)) → Member rank (ranks_in rows)
Member-merged rank rows m =
    let from = Member-from_flat_map ranks_of rank (merged rows) m in
    let each = each-merged (λ ranks. Member rank ranks → Member rank (ranks_in rows)) rows
    (by_members (λ row. Member rank (ranks_of row) → Member rank (ranks_in rows)) rows (λ row n k. Member-flat_map ranks_of row rank rows n k)) in
    at_member (λ (row : RowOf). Member rank (ranks_of row) → Member rank (ranks_in rows)) from.0 (merged rows) each from.1 from.2

Member-ranks_permutation : (rank : ℕ) (rows others : List RowOf) → IsPermutation rows others → Member rank (ranks_in others) → Member rank (ranks_in rows)
Member-ranks_permutation rank rows others same m =
    let from = Member-from_flat_map ranks_of rank others m in
    Member-flat_map ranks_of from.0 rank rows (Member-permutation rows others from.0 same from.1) from.2

-- ---- rows in order

by_places : {A : Type 0} (P : A → Type 0) (xs : List A) (d : A) → ((k : ℕ) → k < length xs → P (get_or xs k d)) → AllByRecursion P xs
by_places P [] d each = tt
by_places P (x ∷ xs) d each = (each 0 (omega arith), by_places P xs d (λ k within. each (suc k) (omega arith)))

Rising-places : (rows : List Row) → ((i j : ℕ) (d : Row) → i ≤ j → j < length rows → row_below (get_or rows j d) (get_or rows i d) ≡ false)
    → Rising (rows_of rows)
Rising-places [] far = tt
Rising-places (row ∷ rows) far = (
  each-rows (λ other. is_lt (row_cmp other (row_of row)) ≡ false) rows
      (by_places (λ other. is_lt (row_cmp (row_of other) (row_of row)) ≡ false) rows row (λ k within. far 0 (suc k) row (omega arith) (omega arith))),
  Rising-places rows (λ i j d before within. far (suc i) (suc j) d (omega arith) (omega arith)),
)

pub Rising-sorted : (rows : List Row) → IsSortedBy row_below rows → Rising (rows_of rows)
Rising-sorted rows sorted = Rising-places rows (λ i j d before within. sorted_far row_below (ranks_by row_cmp_total row_of) rows sorted i j d before within)

pub AreRows-sorted : (rows sorted : List Row) → IsPermutation rows sorted → AreRows (rows_of rows) → AreRows (rows_of sorted)
AreRows-sorted rows sorted same = AreRows-permutation (rows_of rows) (rows_of sorted) (IsPermutation-map row_of rows sorted same)

-- rows put in order and made one
pub IsMerging-sorted : (rows sorted : List Row) → IsPermutation rows sorted → IsSortedBy row_below sorted → IsMerging (rows_of rows) (merged (rows_of sorted))
IsMerging-sorted rows sorted permuted order =
    let same = IsPermutation-map row_of rows sorted permuted in
    let given = rows_of rows in
    let answer = merged (rows_of sorted) in
    let sums = SameSums-sorted given (rows_of sorted) same in
    let apart = AreApart-merged (rows_of sorted) (Rising-sorted sorted order) in
    let rules : AreRows given → AreRows answer = λ rules. AreRows-merged (rows_of sorted) (AreRows-permutation given (rows_of sorted) same rules) in
    record {
      over = λ set. over-sum set answer ∙ sums.worth (over_row set) (over_row-added set) ∙ sym (over-sum set given);
      count = λ set. count_over-sum set answer ∙ sums.number (count_in set) (count_in-added set) ∙ sym (count_over-sum set given);
      rules = rules;
      sums = λ are. AreSums-same given answer sums apart (rules are).ascending;
      apart = apart;
      counted = λ all. counted-merged (rows_of sorted) (by_members (λ row. 0 < row.count) (rows_of sorted) (λ row m.
          at_member (λ (r : RowOf). 0 < r.count) row given all (Member-permutation given (rows_of sorted) row same m)));
      ranks = λ rank m. Contains-from_member rank (ranks_in given)
          (Member-ranks_permutation rank given (rows_of sorted) same (Member-merged rank (rows_of sorted) (Member-from_contains rank (ranks_in answer) m)));
    }

-- what follows where rows are merged that are these
pub IfOk-merging : {E : Type 0} (r : Result (List RowOf) E) (given rows : List RowOf) (P : List RowOf → Type 0)
    → given ≡ rows → ((answer : List RowOf) → IsMerging rows answer → P answer) → IfOk r (IsMerging given) → IfOk r P
IfOk-merging r given rows P is next h = IfOk-weaker r (IsMerging rows) P next (subst (λ rs. IfOk r (IsMerging rs)) is h)
