-- Rows of the same ranks made one are their sums.
use Rattle.std.proofs.Common.{◌≡◌, ℕ, ◌<◌, ◌+◌, Bool, true, false, cond, ◌||◌, eqb, ℤ, pos, ◌+ℤ◌, List, [], ◌∷◌, refl, sym, ap, ◌∙◌, map, arith, sum_by}
use Rattle.std.specs.Cmp.Lexicographic.{pointwise}
use Rattle.std.specs.Prelude.{nat_eq}
use Rattle.std.specs.List.{AllByRecursion, filter, list_any}
use Rattle.std.proofs.lemmas.Bool.{ne_eqb, eq-eqb}
use Rattle.std.proofs.lemmas.Int.{ints}
use Rattle.std.proofs.lemmas.List.Sums.{sum_by-cons}
use Rattle.std.proofs.lemmas.Slice.Eq.{bytes_eq-Decides}
use Rattle.hu_kind.specs.Order.{Ascend}
use Rattle.hu_kind.specs.Record.{value_of, items_in}
use Rattle.hu_kind.proofs.lemmas.Members.{Member-map, Member-from_filter}
use Rattle.hu_kind.proofs.lemmas.Occurring.{at_member, by_members}
use Rattle.hu_rows.specs.Rows.{RowOf, AreApart, ranks_of, count_of}
use Rattle.hu_rows.specs.Sums.{has_ranks, with_ranks, sum_over, sum_row, summed, AreSums}
use Rattle.hu_rows.specs.Merging.{added}
use Rattle.hu_rows.proofs.AddedCells.{items_in-added_cells, value_of-added}
use Rattle.hu_rows.proofs.MergingLemmas.{IsAdded, IsCounted}

-- what rows of the same ranks add is the same over rows and over what is made of them, and they have the same ranks
pub record SameSums (rows answer : List RowOf) : Type 0 where
  pub worth : (f : RowOf → ℤ) → IsAdded f → sum_over f answer ≡ sum_over f rows
  pub number : (f : RowOf → ℕ) → IsCounted f → sum_by f answer ≡ sum_by f rows
  pub any : (p : List ℕ → Bool) → list_any (λ row. p (ranks_of row)) answer ≡ list_any (λ row. p (ranks_of row)) rows

-- ---- sums over some of the rows

sum_over-filter : (f : RowOf → ℤ) (p : RowOf → Bool) (rows : List RowOf) → sum_over f (filter p rows) ≡ sum_over (λ row. cond (p row) (f row) (pos 0)) rows
sum_over-filter f p [] = refl
sum_over-filter f p (row ∷ rows) = by (p row) (sum_over-filter f p rows)
  where
    by : (b : Bool) → sum_over f (filter p rows) ≡ sum_over (λ r. cond (p r) (f r) (pos 0)) rows
        → sum_over f (cond b (row ∷ filter p rows) (filter p rows)) ≡ cond b (f row) (pos 0) +ℤ sum_over (λ r. cond (p r) (f r) (pos 0)) rows
    by true ih = ap (λ rest. f row +ℤ rest) ih
    by false ih = omega (arith, ints, ih)

sum_by-filter : (f : RowOf → ℕ) (p : RowOf → Bool) (rows : List RowOf) → sum_by f (filter p rows) ≡ sum_by (λ row. cond (p row) (f row) 0) rows
sum_by-filter f p [] = refl
sum_by-filter f p (row ∷ rows) =
    by (p row) (sum_by-filter f p rows) ∙ sym (sum_by-cons (λ r. cond (p r) (f r) 0) row rows)
  where
    by : (b : Bool) → sum_by f (filter p rows) ≡ sum_by (λ r. cond (p r) (f r) 0) rows
        → sum_by f (cond b (row ∷ filter p rows) (filter p rows)) ≡ cond b (f row) 0 + sum_by (λ r. cond (p r) (f r) 0) rows
    by true ih = omega (arith, ih, sum_by-cons f row (filter p rows))
    by false ih = omega (arith, ih)

-- a test finds a row where some are left of those that pass it
any-filter : (p : RowOf → Bool) (rows : List RowOf) → list_any (λ row. true) (filter p rows) ≡ list_any p rows
any-filter p [] = refl
any-filter p (row ∷ rows) = by (p row) (any-filter p rows)
  where
    by : (b : Bool) → list_any (λ row. true) (filter p rows) ≡ list_any p rows
        → list_any (λ row. true) (cond b (row ∷ filter p rows) (filter p rows)) ≡ (b || list_any p rows)
    by true ih = refl
    by false ih = ih

-- ---- a row is its ranks with its own values

values-own : (cells : List (ℕ × ℤ)) → Ascend (items_in cells) → AllByRecursion (λ cell. value_of cell.0 cells ≡ cell.1) cells
values-own [] up = tt
values-own (cell ∷ cells) up =
    let here : eqb cell.0 cell.0 ≡ true = eq-eqb cell.0 cell.0 refl in (
      rw here refl,
      by_members (λ (c : ℕ × ℤ). value_of c.0 (cell ∷ cells) ≡ c.1) cells (λ c m.
          let above : cell.0 < c.0 = at_member (λ rank. cell.0 < rank) c.0 (items_in cells) up.0 (Member-map (λ (c : ℕ × ℤ). c.0) c cells m) in
          let other : eqb c.0 cell.0 ≡ false = ne_eqb c.0 cell.0 (λ e. omega arith) in
          rw other (at_member (λ (c : ℕ × ℤ). value_of c.0 cells ≡ c.1) c cells (values-own cells up.1) m)),
    )

map-values : (f : ℕ → ℤ) (cells : List (ℕ × ℤ)) → AllByRecursion (λ cell. f cell.0 ≡ cell.1) cells → map (λ rank. (rank, f rank)) (items_in cells) ≡ cells
map-values f [] all = refl
map-values f (cell ∷ cells) all = λ j. (cell.0, all.0 j) ∷ map-values f cells all.1 j

-- a row of these ranks that ascend
record IsOf (ranks : List ℕ) (row : RowOf) : Type 0 where
  is : ranks_of row ≡ ranks
  up : Ascend (ranks_of row)

-- a row has the sums of rows
record HasSums (row : RowOf) (rows : List RowOf) : Type 0 where
  before : row.before ≡ sum_over (λ r. r.before) rows
  count : row.count ≡ sum_by count_of rows
  value : (rank : ℕ) → value_of rank row.cells ≡ sum_over (λ r. value_of rank r.cells) rows

sum_row-is : (ranks : List ℕ) (row : RowOf) (rows : List RowOf) → IsOf ranks row → HasSums row rows → row ≡ sum_row ranks rows
sum_row-is ranks row rows of sums =
    let own = sym (map-values (λ rank. value_of rank row.cells) row.cells (values-own row.cells of.up)) in
    let cells : row.cells ≡ map (λ rank. (rank, sum_over (λ r. value_of rank r.cells) rows)) ranks =
    own ∙ (λ j. map (λ rank. (rank, sums.value rank j)) (of.is j)) in
    λ j. record { before = sums.before j; count = sums.count j; cells = cells j }

-- ---- the rows with just these ranks

module _ (ranks : List ℕ) (rows answer : List RowOf) (same : SameSums rows answer) where
  added-some : (row other : RowOf) → ranks_of row ≡ ranks_of other → has_ranks ranks (added row other) ≡ has_ranks ranks other
  added-some row other e = ap (λ rs. pointwise nat_eq rs ranks) (items_in-added_cells row.cells other.cells ∙ e)

  with-worth : (f : RowOf → ℤ) → IsAdded f → sum_over f (with_ranks ranks answer) ≡ sum_over f (with_ranks ranks rows)
  with-worth f adds = sum_over-filter f (has_ranks ranks) answer ∙ same.worth part is_added ∙ sym (sum_over-filter f (has_ranks ranks) rows)
    where
      part : RowOf → ℤ
      part row = cond (has_ranks ranks row) (f row) (pos 0)

      is_added : IsAdded part
      is_added row other e = rw (added-some row other e, ap (λ rs. pointwise nat_eq rs ranks) e) (by (has_ranks ranks other))
        where
          by : (b : Bool) → cond b (f (added row other)) (pos 0) ≡ cond b (f row) (pos 0) +ℤ cond b (f other) (pos 0)
          by true = adds row other e
          by false = refl

  with-number : (f : RowOf → ℕ) → IsCounted f → sum_by f (with_ranks ranks answer) ≡ sum_by f (with_ranks ranks rows)
  with-number f adds = sum_by-filter f (has_ranks ranks) answer ∙ same.number part is_counted ∙ sym (sum_by-filter f (has_ranks ranks) rows)
    where
      part : RowOf → ℕ
      part row = cond (has_ranks ranks row) (f row) 0

      is_counted : IsCounted part
      is_counted row other e = rw (added-some row other e, ap (λ rs. pointwise nat_eq rs ranks) e) (by (has_ranks ranks other))
        where
          by : (b : Bool) → cond b (f (added row other)) 0 ≡ cond b (f row) 0 + cond b (f other) 0
          by true = adds row other e
          by false = refl

  with-some : list_any (λ row. true) (with_ranks ranks answer) ≡ list_any (λ row. true) (with_ranks ranks rows)
  with-some =
      any-filter (has_ranks ranks) answer
      ∙ same.any (λ rs. pointwise nat_eq rs ranks)
      ∙ sym (any-filter (has_ranks ranks) rows)

  each-with : AllByRecursion (λ row. Ascend (ranks_of row)) answer → AllByRecursion (IsOf ranks) (with_ranks ranks answer)
  each-with up = by_members (IsOf ranks) (with_ranks ranks answer) (λ row m.
      let from = Member-from_filter (has_ranks ranks) row answer m in
      record { is = (bytes_eq-Decides (ranks_of row) ranks).0 from.1; up = at_member (λ r. Ascend (ranks_of r)) row answer up from.0 })

apart-filter : (p : RowOf → Bool) (rows : List RowOf) → AreApart rows → AreApart (filter p rows)
apart-filter p [] apart = tt
apart-filter p (row ∷ rows) apart = by (p row) (apart-filter p rows apart.1)
  where
    others : AllByRecursion (λ other. ranks_of row ≡ ranks_of other → ⊥) (filter p rows)
    others =
        by_members (λ (other : RowOf). ranks_of row ≡ ranks_of other → ⊥) (filter p rows)
        (λ other m. at_member (λ (r : RowOf). ranks_of row ≡ ranks_of r → ⊥) other rows apart.0 (Member-from_filter p other rows m).0)

    by : (b : Bool) → AreApart (filter p rows) → AreApart (cond b (row ∷ filter p rows) (filter p rows))
    by true ih = (others, ih)
    by false ih = ih

-- of rows of these ranks that are apart there is one at most
one-row : (ranks : List ℕ) (xs ys : List RowOf) → list_any (λ (row : RowOf). true) xs ≡ list_any (λ (row : RowOf). true) ys → AreApart xs
    → AllByRecursion (IsOf ranks) xs
    → ((row : RowOf) → xs ≡ row ∷ [] → HasSums row ys) → xs ≡ summed ranks ys
one-row ranks [] [] some apart of sums = refl
one-row ranks [] (y ∷ ys) some apart of sums = cc
one-row ranks (x ∷ xs) [] some apart of sums = cc
one-row ranks (x ∷ []) (y ∷ ys) some apart of sums = ap (λ row. row ∷ []) (sum_row-is ranks x (y ∷ ys) of.0 (sums x refl))
one-row ranks (x ∷ next ∷ xs) (y ∷ ys) some apart of sums = absurd (apart.0.0 (of.0.is ∙ sym of.1.0.is))

pub AreSums-same : (rows answer : List RowOf) → SameSums rows answer → AreApart answer → AllByRecursion (λ row. Ascend (ranks_of row)) answer
    → AreSums rows answer
AreSums-same rows answer same apart up ranks =
    one-row ranks (with_ranks ranks answer) (with_ranks ranks rows)
    (with-some ranks rows answer same)
    (apart-filter (has_ranks ranks) answer apart)
    (each-with ranks rows answer same up)
    (λ row e. record {
      before = sum-alone (λ r. r.before) row e ∙ with-worth ranks rows answer same (λ r. r.before) (λ row other e. refl);
      count = number-alone count_of row e ∙ with-number ranks rows answer same count_of (λ row other e. refl);
      value = λ rank. sum-alone (λ r. value_of rank r.cells) row e
          ∙ with-worth ranks rows answer same (λ r. value_of rank r.cells) (λ row other e. value_of-added rank row.cells other.cells e);
    })
  where
    sum-alone : (f : RowOf → ℤ) (row : RowOf) → with_ranks ranks answer ≡ row ∷ [] → f row ≡ sum_over f (with_ranks ranks answer)
    sum-alone f row e = let alone : f row ≡ f row +ℤ pos 0 = omega (arith, ints) in alone ∙ ap (sum_over f) (sym e)

    number-alone : (f : RowOf → ℕ) (row : RowOf) → with_ranks ranks answer ≡ row ∷ [] → f row ≡ sum_by f (with_ranks ranks answer)
    number-alone f row e = let alone : f row ≡ 0 + f row = omega arith in alone ∙ ap (sum_by f) (sym e)
