-- Settings of bins as they are written: one rank, one cell and one row more.
use Rattle.std.proofs.Common.{◌≡◌, ℕ, zero, suc, ◌+◌, ◌^◌, ◌<◌, ◌≤◌, Bool, true, false, cond, eqb, ◌&&◌, ◌||◌, ℤ, pos, unsigned_abs, ◌+ℤ◌, ◌-ℤ◌, List, [], ◌∷◌}
use Rattle.std.proofs.Common.{◌++◌, length, get_or, set, take, drop, to_z, of_z, inl, inr, refl, sym, ap, ◌∙◌, subst, arith, sum_by}
use Rattle.std.specs.Int.{w128}
use Rattle.std.specs.List.{AllByRecursion}
use Rattle.std.proofs.lemmas.Bool.{ne_eqb, eq-eqb, eqb-true, or_cases, cases_eq}
use Rattle.std.proofs.lemmas.Int.{ints}
use Rattle.std.proofs.lemmas.List.{length-map, length-set, get_or-set_same, get_or-set_other, take-map}
use Rattle.hu_kind.specs.Order.{Ascend}
use Rattle.hu_kind.specs.Record.{has, items_in, absolute_of, positive_part}
use Rattle.hu_kind.proofs.lemmas.Ascending.{few-from}
use Rattle.hu_totals.specs.declared.ranked.Dense.{Dense}
use Rattle.hu_totals.specs.View.{dense_pair, cells_of}
use Rattle.hu_totals.proofs.lemmas.KeptLemmas.{kept_gain-within}
use Rattle.hu_totals.specs.Cells.{among, kept_gain}
use Rattle.hu_totals.proofs.lemmas.AfterLemmas.{rank-above}
use Rattle.hu_totals.proofs.lemmas.GainLemmas.{cells_of-more, kept_gain-append, kept_gain-rest, place-within}
use Rattle.hu_rows.specs.declared.rows.Row.{Row}
use Rattle.hu_rows.specs.Rows.{RowOf, size_of}
use Rattle.hu_rows.specs.Bounds.{value_at, local_share, subtree_share, local_bound, subtree_bound, set_to, AreKept}
use Rattle.hu_rows.specs.Setting.{IsSetting, kept_part, local_part, subtree_part}
use Rattle.hu_rows.specs.View.{row_of, rows_of}
use Rattle.hu_rows.proofs.AddedCells.{get_or-cells_of}
use Rattle.hu_rows.proofs.CellChecks.{IsPlace-cells}
use Rattle.hu_rows.proofs.BoundLemmas.{local_bound-within, subtree_bound-within, local_bound-push, subtree_bound-push, local_share-within}
use Rattle.hu_rows.proofs.RunLemmas.{rows_of-more, sum_by-more}

-- ---- a setting

pub among-below : (n rank : ℕ) (kept : List ℕ) → AllByRecursion (λ r. r < n) kept → among rank kept ≡ true → rank < n
among-below n rank [] below m = cc
among-below n rank (r ∷ kept) below m = elim (or_cases (eqb rank r) (among rank kept) m) [
  | inl e ↦ let same = eqb-true rank r e in let first = below.0 in omega arith
  | inr later ↦ among-below n rank kept below.1 later
]

-- a kept rank gets another value
pub IsSetting-set : (kept : List ℕ) (values : List ℤ) (flags : List Bool) (rank : ℕ) (v : ℤ) → IsSetting kept values flags → among rank kept ≡ true
    → IsSetting kept (set values rank v) flags
IsSetting-set kept values flags rank v is m = record {
  below = subst (λ n. AllByRecursion (λ r. r < n) kept) (sym (length-set values rank v)) is.below;
  marked = is.marked ∙ sym (length-set values rank v);
  marks = is.marks;
  zero = λ other out. get_or-set_other values rank other v (pos 0) (λ e. let there : among other kept ≡ true =
      subst (λ r. among r kept ≡ true) (sym e) m in cc) ∙ is.zero other out;
}

plus-nothing : (b : Bool) (share x : ℤ) → x ≡ x +ℤ cond (b && false) share (pos 0)
plus-nothing true share x = omega (arith, ints)
plus-nothing false share x = omega (arith, ints)

pub value_at-set : (kept : List ℕ) (values : List ℤ) (flags : List Bool) (rank : ℕ) (v share : ℤ) → IsSetting kept values flags → among rank kept ≡ true
    → v ≡ value_at values rank +ℤ share
    → (other : ℕ) → value_at (set values rank v) other ≡ value_at values other +ℤ cond (among other kept && eqb other rank) share (pos 0)
value_at-set kept values flags rank v share is m worth other = elim (cases_eq other rank) [
  | inl e ↦
      let here : eqb other rank ≡ true = eq-eqb other rank e in
      let there : among other kept ≡ true = subst (λ r. among r kept ≡ true) (sym e) m in
      let written : get_or (set values rank v) other (pos 0) ≡ v = ap (λ r. get_or (set values rank v) r (pos 0)) e
      ∙ get_or-set_same values rank v (pos 0) (among-below (length values) rank kept is.below m) in
      rw (here, there) (written ∙ worth ∙ ap (λ r. value_at values r +ℤ share) (sym e))
  | inr ne ↦
      let no_match : eqb other rank ≡ false = ne_eqb other rank ne in
      let written : get_or (set values rank v) other (pos 0) ≡ get_or values other (pos 0) = get_or-set_other values rank other v (pos 0) ne in
      rw no_match (written ∙ plus-nothing (among other kept) share (value_at values other))
]

-- ranks that aren't kept get nothing
pub value_at-out : (kept : List ℕ) (values : List ℤ) (rank : ℕ) (share : ℤ) → among rank kept ≡ false → (other : ℕ)
    → value_at values other ≡ value_at values other +ℤ cond (among other kept && eqb other rank) share (pos 0)
value_at-out kept values rank share out other = elim (cases_eq other rank) [
  | inl e ↦
      let there : among other kept ≡ false = subst (λ r. among r kept ≡ false) (sym e) out in
      rw there (omega (arith, ints))
  | inr ne ↦
      let no_match : eqb other rank ≡ false = ne_eqb other rank ne in
      rw no_match (plus-nothing (among other kept) share (value_at values other))
]

-- ---- a setting begun anew

-- ranks that ascend below a number are at most so many
pub few-kept : (n : ℕ) (keep : List ℕ) → AreKept n keep → length keep ≤ n
few-kept n [] kept = omega arith
few-kept n (r ∷ keep) kept = omega (arith, few-from n r keep kept.ascending.1 kept.below.1 kept.ascending.0 kept.below.0)

module _ (kept keep : List ℕ) (values values' : List ℤ) (flags flags' flags'' : List Bool) (is : IsSetting kept values flags)
    (is_kept : AreKept (length values) keep)
    (len : length values' ≡ length values) (marked : length flags' ≡ length flags) (marked' : length flags'' ≡ length flags')
    (cleared : (rank : ℕ) → value_at values' rank ≡ cond (among rank kept) (pos 0) (value_at values rank))
    (unmarked : (rank : ℕ) → get_or flags' rank false ≡ cond (among rank kept) false (get_or flags rank false))
    (marks : (rank : ℕ) → get_or flags'' rank false ≡ among rank keep || get_or flags' rank false) where
  pub zero-anew : (rank : ℕ) → value_at values' rank ≡ pos 0
  zero-anew rank = cleared rank ∙ by (among rank kept) refl
    where
      by : (b : Bool) → among rank kept ≡ b → cond b (pos 0) (value_at values rank) ≡ pos 0
      by true e = refl
      by false e = is.zero rank e

  pub IsSetting-anew : IsSetting keep values' flags''
  IsSetting-anew = record {
    below = subst (λ n. AllByRecursion (λ r. r < n) keep) (sym len) is_kept.below;
    marked = marked' ∙ marked ∙ is.marked ∙ sym len;
    marks = λ rank. marks rank ∙ ap (λ b. among rank keep || b) (unmarked rank ∙ ap (cond (among rank kept) false) (is.marks rank) ∙ none (among rank kept))
        ∙ or-false (among rank keep);
    zero = λ rank out. zero-anew rank;
  }
    where
      none : (b : Bool) → cond b false b ≡ false
      none true = refl
      none false = refl

      or-false : (b : Bool) → b || false ≡ b
      or-false true = refl
      or-false false = refl

-- ---- one cell more

has-push : (rank : ℕ) (cells : List (ℕ × ℤ)) (cell : ℕ × ℤ) → has rank (cells ++ cell ∷ []) ≡ has rank cells || eqb rank cell.0
has-push rank [] cell = by (eqb rank cell.0)
  where
    by : (b : Bool) → b || false ≡ false || b
    by true = refl
    by false = refl
has-push rank (c ∷ cells) cell = ap (λ b. eqb rank c.0 || b) (has-push rank cells cell) ∙ by (eqb rank c.0) (has rank cells) (eqb rank cell.0)
  where
    by : (a b c : Bool) → a || (b || c) ≡ (a || b) || c
    by true b c = refl
    by false b c = refl

-- a rank doesn't stand before its place
has-before : (cells : List (ℕ × ℤ)) (i : ℕ) (d : ℕ × ℤ) → Ascend (items_in cells) → i < length cells → has (get_or cells i d).0 (take i cells) ≡ false
has-before [] i d up within = absurd (omega arith)
has-before (cell ∷ cells) zero d up within = refl
has-before (cell ∷ cells) (suc i) d up within =
    let later : cell.0 < (get_or cells i d).0 = rank-above cell.0 cells i d up.0 (omega arith) in
    let other : eqb (get_or cells i d).0 cell.0 ≡ false = ne_eqb (get_or cells i d).0 cell.0 (λ e. absurd (omega arith)) in
    rw other (has-before cells i d up.1 (omega arith))

-- what a rank has been given
abbrev pub given : List ℕ → (ℕ → ℤ) → List (ℕ × ℤ) → ℕ → ℤ
given kept share cells rank = cond (among rank kept && has rank cells) (share rank) (pos 0)

given-push : (kept : List ℕ) (share : ℕ → ℤ) (cells : List (ℕ × ℤ)) (cell : ℕ × ℤ) (rank : ℕ) → has cell.0 cells ≡ false
    → given kept share (cells ++ cell ∷ []) rank ≡ given kept share cells rank +ℤ cond (among rank kept && eqb rank cell.0) (share cell.0) (pos 0)
given-push kept share cells cell rank fresh = elim (cases_eq rank cell.0) [
  | inl e ↦
      let here : eqb rank cell.0 ≡ true = eq-eqb rank cell.0 e in
      let none : has rank cells ≡ false = subst (λ r. has r cells ≡ false) (sym e) fresh in
      rw (has-push rank cells cell) (rw (here, none) (one (among rank kept) (ap share e)))
  | inr ne ↦
      let other : eqb rank cell.0 ≡ false = ne_eqb rank cell.0 ne in
      rw (has-push rank cells cell) (rw other (two (among rank kept) (has rank cells)))
]
  where
    one : (a : Bool) → share rank ≡ share cell.0 → cond (a && true) (share rank) (pos 0)
        ≡ cond (a && false) (share rank) (pos 0) +ℤ cond (a && true) (share cell.0) (pos 0)
    one true e = omega (arith, ints)
    one false e = omega (arith, ints)

    two : (a h : Bool) → cond (a && (h || false)) (share rank) (pos 0) ≡ cond (a && h) (share rank) (pos 0) +ℤ cond (a && false) (share cell.0) (pos 0)
    two true true = omega (arith, ints)
    two true false = omega (arith, ints)
    two false h = omega (arith, ints)

pub fresh-at : (cells : List Dense) (i : ℕ) (d : Dense) → Ascend (items_in (cells_of cells)) → i < length cells
    → has (get_or cells i d).rank (cells_of (take i cells)) ≡ false
fresh-at cells i d up within =
    let before = has-before (cells_of cells) i (dense_pair d) up (omega (arith, length-map cells dense_pair)) in
    ap (has (get_or cells i d).rank) (sym (take-map dense_pair i cells))
    ∙ ap (λ (c : ℕ × ℤ). has c.0 (take i (cells_of cells))) (sym (get_or-cells_of cells i d within)) ∙ before

-- the value of each rank with one cell more
pub given-more : (kept : List ℕ) (share : ℕ → ℤ) (cells : List Dense) (i : ℕ) (d : Dense) (first now then : List ℤ) → Ascend (items_in (cells_of cells))
    → i < length cells
    → ((rank : ℕ) → value_at now rank ≡ value_at first rank +ℤ given kept share (cells_of (take i cells)) rank)
    → ((rank : ℕ) → value_at then rank ≡ value_at now rank +ℤ cond (among rank kept && eqb rank (get_or cells i d).rank) (share (get_or cells i d).rank)
    (pos 0))
    → (rank : ℕ) → value_at then rank ≡ value_at first rank +ℤ given kept share (cells_of (take (i + 1) cells)) rank
given-more kept share cells i d first now then up within before added rank =
    let push = given-push kept share (cells_of (take i cells)) (dense_pair (get_or cells i d)) rank (fresh-at cells i d up within) in
    let more = ap (λ cs. given kept share cs rank) (cells_of-more cells i d within) in
    omega (arith, ints, before rank, added rank, push, more)

-- a rank that is met for the first time was given nothing so far
pub given-fresh : (kept : List ℕ) (share : ℕ → ℤ) (cells : List Dense) (i : ℕ) (d : Dense) → Ascend (items_in (cells_of cells)) → i < length cells
    → given kept share (cells_of (take i cells)) (get_or cells i d).rank ≡ pos 0
given-fresh kept share cells i d up within = rw (fresh-at cells i d up within) (none (among (get_or cells i d).rank kept))
  where
    none : (b : Bool) → cond (b && false) (share (get_or cells i d).rank) (pos 0) ≡ pos 0
    none true = refl
    none false = refl

-- ---- the gain so far

pub kept_gain-more : (keep : List ℕ) (cells : List Dense) (i : ℕ) (d : Dense) → i < length cells
    → kept_gain keep (cells_of (take (i + 1) cells)) ≡ kept_gain keep (cells_of (take i cells)) +ℤ kept_part keep (dense_pair (get_or cells i d))
kept_gain-more keep cells i d within =
    let more = ap (kept_gain keep) (cells_of-more cells i d within) in
    omega (arith, ints, more, kept_gain-append keep (cells_of (take i cells)) (dense_pair (get_or cells i d) ∷ []))

-- the subtree share at a place
pub subtree_share-at : (keep : List ℕ) (row : Row) (i : ℕ) (d : Dense) → Ascend (items_in (cells_of row.cells.now)) → i < length row.cells.now
    → subtree_share keep (get_or row.cells.now i d).rank (row_of row)
    ≡ positive_part (row.before +ℤ (get_or row.cells.now i d).value +ℤ kept_gain keep (cells_of (drop (i + 1) row.cells.now)))
subtree_share-at keep row i d up within =
    let place = IsPlace-cells row.cells.now i d up within in
    λ j. positive_part (row.before +ℤ place.worth j +ℤ kept_gain keep (place.tail j))

-- ---- one row more

set_to-more : (keep : List ℕ) (rank : ℕ) (bound share : ℤ) (h : Bool) → cond (among rank keep) (bound +ℤ cond h share (pos 0)) (pos 0)
    ≡ cond (among rank keep) bound (pos 0) +ℤ cond (among rank keep && h) share (pos 0)
set_to-more keep rank bound share h = by (among rank keep) h
  where
    by : (a b : Bool) → cond a (bound +ℤ cond b share (pos 0)) (pos 0) ≡ cond a bound (pos 0) +ℤ cond (a && b) share (pos 0)
    by true b = refl
    by false b = omega (arith, ints)

pub local-more : (rows : List Row) (keep : List ℕ) (i : ℕ) (d : Row) (rank : ℕ) → i < length rows
    → set_to (local_bound (rows_of (take (i + 1) rows)) keep) keep rank
    ≡ set_to (local_bound (rows_of (take i rows)) keep) keep rank +ℤ local_part keep (row_of (get_or rows i d)) rank
local-more rows keep i d rank within =
    let row = row_of (get_or rows i d) in
    ap (λ rs. set_to (local_bound rs keep) keep rank) (rows_of-more rows i d within)
    ∙ ap (λ v. cond (among rank keep) v (pos 0)) (local_bound-push (rows_of (take i rows)) row keep rank)
    ∙ set_to-more keep rank (local_bound (rows_of (take i rows)) keep rank) (local_share keep row) (has rank row.cells)

pub subtree-more : (rows : List Row) (keep : List ℕ) (i : ℕ) (d : Row) (rank : ℕ) → i < length rows
    → set_to (subtree_bound (rows_of (take (i + 1) rows)) keep) keep rank
    ≡ set_to (subtree_bound (rows_of (take i rows)) keep) keep rank +ℤ subtree_part keep (row_of (get_or rows i d)) rank
subtree-more rows keep i d rank within =
    let row = row_of (get_or rows i d) in
    ap (λ rs. set_to (subtree_bound rs keep) keep rank) (rows_of-more rows i d within)
    ∙ ap (λ v. cond (among rank keep) v (pos 0)) (subtree_bound-push (rows_of (take i rows)) row keep rank)
    ∙ set_to-more keep rank (subtree_bound (rows_of (take i rows)) keep rank) (subtree_share keep rank row) (has rank row.cells)

set_to-within : (keep : List ℕ) (rank : ℕ) (bound : ℤ) (size : ℕ) → unsigned_abs bound ≤ size → unsigned_abs (cond (among rank keep) bound (pos 0)) ≤ size
set_to-within keep rank bound size h = by (among rank keep)
  where
    by : (b : Bool) → unsigned_abs (cond b bound (pos 0)) ≤ size
    by true = h
    by false = omega arith

pub local-room : (rows : List Row) (keep : List ℕ) (i : ℕ) (d : Row) (rank : ℕ) (value : ℤ) → i < length rows
    → value ≡ set_to (local_bound (rows_of (take i rows)) keep) keep rank → sum_by size_of (rows_of rows) < 2 ^ 127
    → unsigned_abs value + size_of (row_of (get_or rows i d)) < 2 ^ 127
local-room rows keep i d rank value within is fits =
    let all = rows_of (take i rows) in
    omega (
      arith,
      ap unsigned_abs is,
      set_to-within keep rank (local_bound all keep rank) (sum_by size_of all) (local_bound-within all keep rank),
      sum_by-more size_of rows i d within,
    )

pub subtree-room : (rows : List Row) (keep : List ℕ) (i : ℕ) (d : Row) (rank : ℕ) (value : ℤ) → i < length rows
    → value ≡ set_to (subtree_bound (rows_of (take i rows)) keep) keep rank → sum_by size_of (rows_of rows) < 2 ^ 127
    → unsigned_abs value + size_of (row_of (get_or rows i d)) < 2 ^ 127
subtree-room rows keep i d rank value within is fits =
    let all = rows_of (take i rows) in
    omega (
      arith,
      ap unsigned_abs is,
      set_to-within keep rank (subtree_bound all keep rank) (sum_by size_of all) (subtree_bound-within all keep rank),
      sum_by-more size_of rows i d within,
    )

-- ---- the cells from a place on

-- ---- shares as they are computed

pub same-fit : (z : ℤ) → unsigned_abs z < 2 ^ 127 → to_z w128 (of_z w128 z) ≡ z
same-fit z fits = omega (arith, ints)

-- what is left of the gain where a cell's part is taken
pub rest-is : (keep : List ℕ) (cells : List Dense) (i : ℕ) (d : Dense) (rest part : ℤ) → i < length cells → absolute_of (cells_of cells) < 2 ^ 127
    → rest ≡ kept_gain keep (cells_of (drop i cells)) → part ≡ kept_part keep (dense_pair (get_or cells i d))
    → rest -ℤ part ≡ kept_gain keep (cells_of (drop (i + 1) cells))
rest-is keep cells i d rest part within fits is e = omega (arith, ints, kept_gain-rest keep cells i d within)

pub local_share-is : (kept : List ℕ) (row : RowOf) (gain r : ℤ) → gain ≡ kept_gain kept row.cells → size_of row < 2 ^ 127
    → r ≡ positive_part (to_z w128 (of_z w128 (to_z w128 (of_z w128 row.before) +ℤ to_z w128 (of_z w128 gain))))
    → to_z w128 (of_z w128 r) ≡ local_share kept row
local_share-is kept row gain r is fits e =
    let within = kept_gain-within kept row.cells in
    let worth : to_z w128 (of_z w128 (to_z w128 (of_z w128 row.before) +ℤ to_z w128 (of_z w128 gain))) ≡ row.before +ℤ kept_gain kept row.cells =
    omega (arith, ints) in
    let share : r ≡ local_share kept row = e ∙ ap positive_part worth in
    omega (arith, ints, share, local_share-within kept row)

-- ---- one turn of the loop over a row's cells: the gain from a cell on, and the cell's part of it

pub record Left (kept : List ℕ) (row : Row) (i : ℕ) (d : Dense) (rest part : ℤ) : Type 0 where
  pub within : i < length row.cells.now
  pub fits : size_of (row_of row) < 2 ^ 127
  pub rest_is : rest ≡ kept_gain kept (cells_of (drop i row.cells.now))
  pub part_is : part ≡ kept_part kept (dense_pair (get_or row.cells.now i d))
  pub read : to_z w128 (of_z w128 part) ≡ part

module _ {kept : List ℕ} {row : Row} {i : ℕ} {d : Dense} {rest part : ℤ} (left : Left kept row i d rest part) where
  -- the gain after the cell
  pub left-after : rest -ℤ to_z w128 (of_z w128 part) ≡ kept_gain kept (cells_of (drop (i + 1) row.cells.now))
  left-after =
      ap (λ p. rest -ℤ p) left.read
      ∙ rest-is kept row.cells.now i d rest part left.within (omega (arith, left.fits)) left.rest_is left.part_is

  pub left-room : unsigned_abs row.before + unsigned_abs (get_or row.cells.now i d).value
      + unsigned_abs (kept_gain kept (cells_of (drop (i + 1) row.cells.now))) < 2 ^ 127
  left-room = omega (arith, place-within kept row.cells.now i d left.within, left.fits)

  pub left-now : to_z w128 (of_z w128 (rest -ℤ to_z w128 (of_z w128 part))) ≡ kept_gain kept (cells_of (drop (i + 1) row.cells.now))
  left-now = same-fit (rest -ℤ to_z w128 (of_z w128 part)) (omega (arith, ap unsigned_abs left-after, left-room)) ∙ left-after

  pub left-before : to_z w128 (of_z w128 row.before) ≡ row.before
  left-before = same-fit row.before (omega (arith, left-room))

  pub left-value : to_z w128 (of_z w128 (get_or row.cells.now i d).value) ≡ (get_or row.cells.now i d).value
  left-value = same-fit (get_or row.cells.now i d).value (omega (arith, left-room))

  -- the share as it is computed
  pub left-share : (r : ℤ) → Ascend (items_in (cells_of row.cells.now))
      → r ≡ positive_part (to_z w128 (of_z w128 row.before) +ℤ to_z w128 (of_z w128 (get_or row.cells.now i d).value)
      +ℤ to_z w128 (of_z w128 (rest -ℤ to_z w128 (of_z w128 part))))
      → r ≡ subtree_share kept (get_or row.cells.now i d).rank (row_of row)
  left-share r up is =
      is
      ∙ (λ j. positive_part (left-before j +ℤ left-value j +ℤ left-now j))
      ∙ sym (subtree_share-at kept row i d up left.within)
