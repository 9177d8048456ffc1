-- No set of kept ranks earns more over rows than the bounds, and bounds grow row by row.
use Rattle.std.proofs.Common.{◌≡◌, ℕ, ◌≤◌, Bool, true, false, cond, eqb, ◌&&◌, IsTrue, ℤ, pos, unsigned_abs, ◌+ℤ◌, ◌≤ℤ◌, List, [], ◌∷◌, ◌++◌, inl, inr, refl}
use Rattle.std.proofs.Common.{sym, ap, ◌∙◌, subst, arith, sum_by}
use Rattle.std.specs.List.{AllByRecursion}
use Rattle.std.proofs.lemmas.Bool.{eqb-true, or_cases}
use Rattle.std.proofs.lemmas.Int.{ints}
use Rattle.std.proofs.lemmas.List.Sums.{sum_by-cons}
use Rattle.hu_kind.specs.Order.{Ascend}
use Rattle.hu_kind.specs.Record.{has, holds, value_of, values_of}
use Rattle.hu_kind.proofs.lemmas.Earned.{positive_part-within}
use Rattle.hu_kind.proofs.lemmas.Each.{each-weaker}
use Rattle.hu_rows.specs.Rows.{RowOf, AreRows, over, over_row, ranks_of, size_of}
use Rattle.hu_rows.specs.Bounds.{local_share, subtree_share, local_bound, subtree_bound, set_to, IsKeptSet, BoundsEach, BoundsLeast}
use Rattle.hu_totals.proofs.lemmas.KeptLemmas.{positive-least, positive-above, kept_gain-within, values_of-kept, has-among}
use Rattle.hu_totals.specs.Cells.{after, among, kept_gain}
use Rattle.hu_totals.proofs.lemmas.AfterLemmas.{Ascend-after, absolute_of-after, holds-after, values_of-after}

-- ---- what a set of kept ranks earns in a row is within the row's share

-- ranks above that of the first cell stand among the others
true_from : (b : Bool) → IsTrue b → b ≡ true
true_from true h = refl
true_from false h = cc

kept_set : (keep set : List ℕ) → AllByRecursion (λ rank. IsTrue (among rank keep)) set → AllByRecursion (λ rank. among rank keep ≡ true) set
kept_set keep set kept =
    each-weaker (λ rank. IsTrue (among rank keep)) (λ rank. among rank keep ≡ true) set (λ rank h. true_from (among rank keep) h) kept

over_row-local : (keep set : List ℕ) (z : ℕ) (row : RowOf) → Ascend (ranks_of row) → IsKeptSet keep set → among z set ≡ true
    → over_row set row ≤ℤ cond (has z row.cells) (local_share keep row) (pos 0)
over_row-local keep set z row up is m = by (holds set row.cells) (has z row.cells) refl refl
  where
    by : (b c : Bool) → holds set row.cells ≡ b → has z row.cells ≡ c → cond b (row.before +ℤ values_of set row.cells) (pos 0)
        ≤ℤ cond c (local_share keep row) (pos 0)
    by true true h k = omega (arith, ints, positive-above (row.before +ℤ kept_gain keep row.cells), values_of-kept keep row.cells set up is.ascending (kept_set keep set is.kept) h)
    by true false h k = let there = has-among z set row.cells m h in cc
    by false true h k = positive-least (row.before +ℤ kept_gain keep row.cells)
    by false false h k = omega (arith, ints)

pub over_row-subtree : (keep set : List ℕ) (z : ℕ) (row : RowOf) → Ascend (ranks_of row) → IsKeptSet keep (z ∷ set)
    → over_row (z ∷ set) row ≤ℤ cond (has z row.cells) (subtree_share keep z row) (pos 0)
over_row-subtree keep set z row up is = by (has z row.cells) (holds set row.cells) refl
  where
    by : (b c : Bool) → holds set row.cells ≡ c → cond (b && c) (row.before +ℤ (value_of z row.cells +ℤ values_of set row.cells)) (pos 0)
        ≤ℤ cond b (subtree_share keep z row) (pos 0)
    by true true h =
        let above = is.ascending.0 in
        let kept = values_of-kept keep (after z row.cells) set (Ascend-after z row.cells up) is.ascending.1 (kept_set keep set is.kept.1) (holds-after z set row.cells above ∙ h) in
        omega (
          arith,
          ints,
          positive-above (row.before +ℤ value_of z row.cells +ℤ kept_gain keep (after z row.cells)),
          kept,
          values_of-after z set row.cells above,
        )
    by true false h = positive-least (row.before +ℤ value_of z row.cells +ℤ kept_gain keep (after z row.cells))
    by false c h = omega (arith, ints)

pub over-local : (keep set : List ℕ) (z : ℕ) (rows : List RowOf) → AllByRecursion (λ row. Ascend (ranks_of row)) rows → IsKeptSet keep set
    → among z set ≡ true → over rows set ≤ℤ local_bound rows keep z
over-local keep set z [] up is m = omega (arith, ints)
over-local keep set z (row ∷ rows) up is m = omega (arith, ints, over_row-local keep set z row up.0 is m, over-local keep set z rows up.1 is m)

over-subtree : (keep set : List ℕ) (z : ℕ) (rows : List RowOf) → AllByRecursion (λ row. Ascend (ranks_of row)) rows → IsKeptSet keep (z ∷ set)
    → over rows (z ∷ set) ≤ℤ subtree_bound rows keep z
over-subtree keep set z [] up is = omega (arith, ints)
over-subtree keep set z (row ∷ rows) up is = omega (arith, ints, over_row-subtree keep set z row up.0 is, over-subtree keep set z rows up.1 is)

among-kept : (keep : List ℕ) (z : ℕ) (set : List ℕ) → AllByRecursion (λ rank. IsTrue (among rank keep)) set → among z set ≡ true → among z keep ≡ true
among-kept keep z [] kept m = cc
among-kept keep z (s ∷ set) kept m = elim (or_cases (eqb z s) (among z set) m) [
  | inl e ↦ subst (λ r. among r keep ≡ true) (sym (eqb-true z s e)) (true_from (among s keep) kept.0)
  | inr later ↦ among-kept keep z set kept.1 later
]

pub BoundsEach-local : (rows : List RowOf) (keep : List ℕ) (setting : ℕ → ℤ) → AreRows rows
    → ((rank : ℕ) → setting rank ≡ set_to (local_bound rows keep) keep rank) → BoundsEach rows keep setting
BoundsEach-local rows keep setting rules is set kept z m =
    let inside : among z set ≡ true = true_from (among z set) m in
    let here : setting z ≡ local_bound rows keep z = is z ∙ ap (λ b. cond b (local_bound rows keep z) (pos 0)) (among-kept keep z set kept.kept inside) in
    subst (λ v. over rows set ≤ℤ v) (sym here) (over-local keep set z rows rules.ascending kept inside)

pub BoundsLeast-subtree : (rows : List RowOf) (keep : List ℕ) (setting : ℕ → ℤ) → AreRows rows
    → ((rank : ℕ) → setting rank ≡ set_to (subtree_bound rows keep) keep rank) → BoundsLeast rows keep setting
BoundsLeast-subtree rows keep setting rules is z set kept =
    let here : setting z ≡ subtree_bound rows keep z = is z ∙ ap (λ b. cond b (subtree_bound rows keep z) (pos 0)) (true_from (among z keep) kept.kept.0) in
    subst (λ v. over rows (z ∷ set) ≤ℤ v) (sym here) (over-subtree keep set z rows rules.ascending kept)

-- ---- shares are within the sizes of rows

pub local_share-within : (keep : List ℕ) (row : RowOf) → unsigned_abs (local_share keep row) ≤ size_of row
local_share-within keep row = omega (arith, ints, positive_part-within (row.before +ℤ kept_gain keep row.cells), kept_gain-within keep row.cells)

pub subtree_share-within : (keep : List ℕ) (z : ℕ) (row : RowOf) → unsigned_abs (subtree_share keep z row) ≤ size_of row
subtree_share-within keep z row = omega (
  arith,
  ints,
  positive_part-within (row.before +ℤ value_of z row.cells +ℤ kept_gain keep (after z row.cells)),
  kept_gain-within keep (after z row.cells),
  absolute_of-after z row.cells,
)

share-within : (b : Bool) (share : ℤ) (size : ℕ) → unsigned_abs share ≤ size → unsigned_abs (cond b share (pos 0)) ≤ size
share-within true share size h = h
share-within false share size h = omega arith

pub local_bound-within : (rows : List RowOf) (keep : List ℕ) (z : ℕ) → unsigned_abs (local_bound rows keep z) ≤ sum_by size_of rows
local_bound-within [] keep z = omega arith
local_bound-within (row ∷ rows) keep z = omega (
  arith,
  ints,
  sum_by-cons size_of row rows,
  share-within (has z row.cells) (local_share keep row) (size_of row) (local_share-within keep row),
  local_bound-within rows keep z,
)

pub subtree_bound-within : (rows : List RowOf) (keep : List ℕ) (z : ℕ) → unsigned_abs (subtree_bound rows keep z) ≤ sum_by size_of rows
subtree_bound-within [] keep z = omega arith
subtree_bound-within (row ∷ rows) keep z = omega (
  arith,
  ints,
  sum_by-cons size_of row rows,
  share-within (has z row.cells) (subtree_share keep z row) (size_of row) (subtree_share-within keep z row),
  subtree_bound-within rows keep z,
)

-- ---- one row more

pub local_bound-push : (rows : List RowOf) (row : RowOf) (keep : List ℕ) (z : ℕ)
    → local_bound (rows ++ row ∷ []) keep z ≡ local_bound rows keep z +ℤ cond (has z row.cells) (local_share keep row) (pos 0)
local_bound-push [] row keep z = omega (arith, ints)
local_bound-push (r ∷ rows) row keep z = omega (arith, ints, local_bound-push rows row keep z)

pub subtree_bound-push : (rows : List RowOf) (row : RowOf) (keep : List ℕ) (z : ℕ)
    → subtree_bound (rows ++ row ∷ []) keep z ≡ subtree_bound rows keep z +ℤ cond (has z row.cells) (subtree_share keep z row) (pos 0)
subtree_bound-push [] row keep z = omega (arith, ints)
subtree_bound-push (r ∷ rows) row keep z = omega (arith, ints, subtree_bound-push rows row keep z)
