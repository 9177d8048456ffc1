-- Rows with the cells of some ranks alone: sets of two or more of these ranks earn over them what they earn over the rows.
use Rattle.std.proofs.Common.{◌≡◌, ℕ, ◌+◌, ◌<◌, ◌≤◌, Bool, true, false, cond, eqb, nat_lt, ◌||◌, ℤ, pos, ◌+ℤ◌, List, [], ◌∷◌, length, refl, ◌∙◌, arith, sum_by}
use Rattle.std.specs.List.{AllByRecursion}
use Rattle.std.proofs.lemmas.Bool.{and_parts, eqb-true, lt-ltb}
use Rattle.std.proofs.lemmas.Int.{ints}
use Rattle.std.proofs.lemmas.List.Sums.{sum_by-cons, sum_by-append}
use Rattle.hu_kind.specs.Order.{Ascend}
use Rattle.hu_kind.specs.Record.{holds, values_of}
use Rattle.hu_kind.proofs.lemmas.Each.{each-append}
use Rattle.hu_rows.specs.Rows.{RowOf, AreRows, over, over_row, count_over, count_in, count_of, size_of, ranks_of}
use Rattle.hu_rows.specs.Tally.{EachRank}
use Rattle.hu_rows.specs.Handed.{only, row_if_two, narrowed_row, narrowed}
use Rattle.hu_rows.proofs.CellLemmas.{holds-only, values_of-only, each-only, Ascend-only, absolute_of-only}
use Rattle.hu_rows.proofs.ProjectionLemmas.{over-append, count_over-append}

-- ---- a row

-- a set of two ranks or more
pub record IsPair (set : List ℕ) : Type 0 where
  pub ascending : Ascend set
  pub two : 1 < length set

-- cells that hold two ranks are two or more
two-held : (set : List ℕ) (cells : List (ℕ × ℤ)) → IsPair set → holds set cells ≡ true → nat_lt 1 (length cells) ≡ true
two-held [] cells pair h = absurd (let two = pair.two in omega arith)
two-held (a ∷ []) cells pair h = absurd (let two = pair.two in omega arith)
two-held (a ∷ b ∷ set) [] pair h = cc
two-held (a ∷ b ∷ set) (c ∷ d ∷ cells) pair h = lt-ltb 1 (length (c ∷ d ∷ cells)) (omega arith)
two-held (a ∷ b ∷ set) (c ∷ []) pair h =
    let below = pair.ascending.0.0 in
    let first = and_parts (eqb a c.0 || false) _ h in
    let second = and_parts (eqb b c.0 || false) _ first.1 in
    let e = eqb-true a c.0 (or-false (eqb a c.0) first.0) in
    let f = eqb-true b c.0 (or-false (eqb b c.0) second.0) in
    absurd (omega arith)
  where
    or-false : (x : Bool) → x || false ≡ true → x ≡ true
    or-false true k = refl
    or-false false k = k

over-row_if_two : (set : List ℕ) (before : ℤ) (count : ℕ) (cells : List (ℕ × ℤ)) → IsPair set
    → over (row_if_two before count cells) set ≡ cond (holds set cells) (before +ℤ values_of set cells) (pos 0)
over-row_if_two set before count cells pair = by (nat_lt 1 (length cells)) (holds set cells) refl refl
  where
    by : (b c : Bool) → nat_lt 1 (length cells) ≡ b → holds set cells ≡ c
        → over (cond b (record { before = before; count = count; cells = cells } ∷ []) []) set ≡ cond c (before +ℤ values_of set cells) (pos 0)
    by true true h k = rw k (omega (arith, ints))
    by true false h k = rw k (omega (arith, ints))
    by false true h k = let two = two-held set cells pair k in cc
    by false false h k = refl

count-row_if_two : (set : List ℕ) (before : ℤ) (count : ℕ) (cells : List (ℕ × ℤ)) → IsPair set
    → count_over (row_if_two before count cells) set ≡ cond (holds set cells) count 0
count-row_if_two set before count cells pair = by (nat_lt 1 (length cells)) (holds set cells) refl refl
  where
    by : (b c : Bool) → nat_lt 1 (length cells) ≡ b → holds set cells ≡ c
        → count_over (cond b (record { before = before; count = count; cells = cells } ∷ []) []) set ≡ cond c count 0
    by true true h k = rw k (omega arith)
    by true false h k = rw k refl
    by false true h k = let two = two-held set cells pair k in cc
    by false false h k = refl

-- ---- rows

module _ (p : ℕ → Bool) (set : List ℕ) (pair : IsPair set) (kept : AllByRecursion (λ s. p s ≡ true) set) where
  over-narrowed_row : (row : RowOf) → over (narrowed_row p row) set ≡ over_row set row
  over-narrowed_row row = over-row_if_two set row.before row.count (only p row.cells) pair
      ∙ (λ j. cond (holds-only p set row.cells kept j) (row.before +ℤ values_of-only p set row.cells kept j) (pos 0))

  count-narrowed_row : (row : RowOf) → count_over (narrowed_row p row) set ≡ count_in set row
  count-narrowed_row row = count-row_if_two set row.before row.count (only p row.cells) pair ∙ (λ j. cond (holds-only p set row.cells kept j) row.count 0)

  pub over-narrowed : (rows : List RowOf) → over (narrowed p rows) set ≡ over rows set
  over-narrowed [] = refl
  over-narrowed (row ∷ rows) = over-append (narrowed_row p row) (narrowed p rows) set ∙ (λ j. over-narrowed_row row j +ℤ over-narrowed rows j)

  pub count-narrowed : (rows : List RowOf) → count_over (narrowed p rows) set ≡ count_over rows set
  count-narrowed [] = refl
  count-narrowed (row ∷ rows) = count_over-append (narrowed_row p row) (narrowed p rows) set ∙ (λ j. count-narrowed_row row j + count-narrowed rows j)

-- what holds of each rank of the rows holds of those of narrowed rows, and these are kept
pub each-narrowed : (p : ℕ → Bool) (P : ℕ → Type 0) (rows : List RowOf) → EachRank P rows → EachRank (λ rank. P rank × (p rank ≡ true)) (narrowed p rows)
each-narrowed p P [] all = tt
each-narrowed p P (row ∷ rows) all =
    each-append (λ (r : RowOf). AllByRecursion (λ rank. P rank × (p rank ≡ true)) (ranks_of r)) (narrowed_row p row) (narrowed p rows)
    (by (nat_lt 1 (length (only p row.cells)))) (each-narrowed p P rows all.1)
  where
    by : (b : Bool) → EachRank (λ rank. P rank × (p rank ≡ true)) (cond b (record { before = row.before; count = row.count; cells = only p row.cells } ∷ []) [])
    by true = (each-only p P row.cells all.0, tt)
    by false = tt

pub AreRows-narrowed : (p : ℕ → Bool) (rows : List RowOf) → AreRows rows → AreRows (narrowed p rows)
AreRows-narrowed p rows rules = record {
  ascending = ascending rows rules.ascending;
  sizes = omega (arith, sizes rows, rules.sizes);
  counts = omega (arith, counts rows, rules.counts);
}
  where
    ascending : (rows : List RowOf) → AllByRecursion (λ row. Ascend (ranks_of row)) rows → AllByRecursion (λ row. Ascend (ranks_of row)) (narrowed p rows)
    ascending [] all = tt
    ascending (row ∷ rows) all = each-append (λ (r : RowOf). Ascend (ranks_of r)) (narrowed_row p row) (narrowed p rows)
        (by (nat_lt 1 (length (only p row.cells)))) (ascending rows all.1)
      where
        by : (b : Bool) → AllByRecursion (λ row. Ascend (ranks_of row))
            (cond b (record { before = row.before; count = row.count; cells = only p row.cells } ∷ []) [])
        by true = (Ascend-only p row.cells all.0, tt)
        by false = tt

    sizes : (rows : List RowOf) → sum_by size_of (narrowed p rows) ≤ sum_by size_of rows
    sizes [] = omega arith
    sizes (row ∷ rows) = omega (
      arith,
      sum_by-append size_of (narrowed_row p row) (narrowed p rows),
      sum_by-cons size_of row rows,
      sizes rows,
      by (nat_lt 1 (length (only p row.cells))),
    )
      where
        by : (b : Bool) → sum_by size_of (cond b (record { before = row.before; count = row.count; cells = only p row.cells } ∷ []) []) ≤ size_of row
        by true = omega (arith, absolute_of-only p row.cells)
        by false = omega arith

    counts : (rows : List RowOf) → sum_by count_of (narrowed p rows) ≤ sum_by count_of rows
    counts [] = omega arith
    counts (row ∷ rows) = omega (
      arith,
      sum_by-append count_of (narrowed_row p row) (narrowed p rows),
      sum_by-cons count_of row rows,
      counts rows,
      by (nat_lt 1 (length (only p row.cells))),
    )
      where
        by : (b : Bool) → sum_by count_of (cond b (record { before = row.before; count = row.count; cells = only p row.cells } ∷ []) []) ≤ row.count
        by true = omega arith
        by false = omega arith
