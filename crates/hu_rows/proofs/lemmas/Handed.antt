-- The rows that a rank is handed: sets of later ranks earn over them what they and the rank earn together.
use Rattle.std.proofs.Common.{◌≡◌, ℕ, ◌+◌, ◌<◌, ◌≤◌, Bool, true, false, cond, ◌&&◌, ℤ, pos, unsigned_abs, ◌+ℤ◌, List, [], ◌∷◌, refl, ◌∙◌, arith, sum_by}
use Rattle.std.specs.List.{AllByRecursion}
use Rattle.std.proofs.lemmas.Int.{ints}
use Rattle.std.proofs.lemmas.List.Sums.{sum_by-cons, sum_by-append}
use Rattle.hu_kind.specs.Order.{Ascend}
use Rattle.hu_kind.specs.Record.{has, holds, value_of, values_of, absolute_of}
use Rattle.hu_kind.proofs.lemmas.Each.{each-append}
use Rattle.hu_rows.specs.Rows.{RowOf, AreRows, over, over_row, count_over, count_in, count_of, size_of, ranks_of}
use Rattle.hu_rows.specs.Tally.{EachRank}
use Rattle.hu_rows.specs.Handed.{row_if_some, handed_row, handed}
use Rattle.hu_rows.proofs.CellLemmas.{each-after-both}
use Rattle.hu_rows.proofs.ProjectionLemmas.{over-append, count_over-append}
use Rattle.hu_totals.specs.Cells.{after}
use Rattle.hu_totals.proofs.lemmas.AfterLemmas.{Ascend-after, absolute_of-after, holds-after, values_of-after}

over-row_if_some : (s : ℕ) (set : List ℕ) (before : ℤ) (count : ℕ) (cells : List (ℕ × ℤ))
    → over (row_if_some before count cells) (s ∷ set) ≡ cond (holds (s ∷ set) cells) (before +ℤ values_of (s ∷ set) cells) (pos 0)
over-row_if_some s set before count [] = refl
over-row_if_some s set before count (cell ∷ cells) = by (holds (s ∷ set) (cell ∷ cells))
  where
    by : (b : Bool) → cond b (before +ℤ values_of (s ∷ set) (cell ∷ cells)) (pos 0) +ℤ pos 0 ≡ cond b (before +ℤ values_of (s ∷ set) (cell ∷ cells)) (pos 0)
    by true = omega (arith, ints)
    by false = refl

count-row_if_some : (s : ℕ) (set : List ℕ) (before : ℤ) (count : ℕ) (cells : List (ℕ × ℤ))
    → count_over (row_if_some before count cells) (s ∷ set) ≡ cond (holds (s ∷ set) cells) count 0
count-row_if_some s set before count [] = refl
count-row_if_some s set before count (cell ∷ cells) = by (holds (s ∷ set) (cell ∷ cells))
  where
    by : (b : Bool) → cond b count 0 + 0 ≡ cond b count 0
    by true = omega arith
    by false = refl

module _ (z s : ℕ) (set : List ℕ) (above : AllByRecursion (λ rank. z < rank) (s ∷ set)) where
  over-handed_row : (row : RowOf) → over (handed_row z row) (s ∷ set) ≡ over_row (z ∷ s ∷ set) row
  over-handed_row row = by (has z row.cells)
    where
      part : (e : Bool) → cond e (row.before +ℤ value_of z row.cells +ℤ values_of (s ∷ set) row.cells) (pos 0)
          ≡ cond e (row.before +ℤ (value_of z row.cells +ℤ values_of (s ∷ set) row.cells)) (pos 0)
      part true = omega (arith, ints)
      part false = refl

      by : (b : Bool) → over (cond b (row_if_some (row.before +ℤ value_of z row.cells) row.count (after z row.cells)) []) (s ∷ set)
          ≡ cond (b && holds (s ∷ set) row.cells) (row.before +ℤ (value_of z row.cells +ℤ values_of (s ∷ set) row.cells)) (pos 0)
      by true = over-row_if_some s set (row.before +ℤ value_of z row.cells) row.count (after z row.cells)
          ∙ (λ j. cond (holds-after z (s ∷ set) row.cells above j) (row.before +ℤ value_of z row.cells +ℤ values_of-after z (s ∷ set) row.cells above j)
          (pos 0))
          ∙ part (holds (s ∷ set) row.cells)
      by false = refl

  count-handed_row : (row : RowOf) → count_over (handed_row z row) (s ∷ set) ≡ count_in (z ∷ s ∷ set) row
  count-handed_row row = by (has z row.cells)
    where
      by : (b : Bool) → count_over (cond b (row_if_some (row.before +ℤ value_of z row.cells) row.count (after z row.cells)) []) (s ∷ set)
          ≡ cond (b && holds (s ∷ set) row.cells) row.count 0
      by true = count-row_if_some s set (row.before +ℤ value_of z row.cells) row.count (after z row.cells)
          ∙ (λ j. cond (holds-after z (s ∷ set) row.cells above j) row.count 0)
      by false = refl

  pub over-handed : (rows : List RowOf) → over (handed z rows) (s ∷ set) ≡ over rows (z ∷ s ∷ set)
  over-handed [] = refl
  over-handed (row ∷ rows) = over-append (handed_row z row) (handed z rows) (s ∷ set) ∙ (λ j. over-handed_row row j +ℤ over-handed rows j)

  pub count-handed : (rows : List RowOf) → count_over (handed z rows) (s ∷ set) ≡ count_over rows (z ∷ s ∷ set)
  count-handed [] = refl
  count-handed (row ∷ rows) = count_over-append (handed_row z row) (handed z rows) (s ∷ set) ∙ (λ j. count-handed_row row j + count-handed rows j)

each-some : (P : RowOf → Type 0) (before : ℤ) (count : ℕ) (cells : List (ℕ × ℤ)) → P (record { before = before; count = count; cells = cells })
    → AllByRecursion P (row_if_some before count cells)
each-some P before count [] h = tt
each-some P before count (cell ∷ cells) h = (h, tt)

-- what holds of each rank of the rows holds of those of handed rows, and these are later
pub each-handed : (P : ℕ → Type 0) (z : ℕ) (rows : List RowOf) → EachRank P rows → EachRank (λ rank. P rank × (z < rank)) (handed z rows)
each-handed P z [] all = tt
each-handed P z (row ∷ rows) all =
    each-append (λ (r : RowOf). AllByRecursion (λ rank. P rank × (z < rank)) (ranks_of r)) (handed_row z row) (handed z rows) (by (has z row.cells))
    (each-handed P z rows all.1)
  where
    by : (b : Bool) → EachRank (λ rank. P rank × (z < rank)) (cond b (row_if_some (row.before +ℤ value_of z row.cells) row.count (after z row.cells)) [])
    by true = each-some (λ (r : RowOf). AllByRecursion (λ rank. P rank × (z < rank)) (ranks_of r)) (row.before +ℤ value_of z row.cells) row.count
        (after z row.cells) (each-after-both P z row.cells all.0)
    by false = tt

size-some : (before : ℤ) (count : ℕ) (cells : List (ℕ × ℤ)) → sum_by size_of (row_if_some before count cells) ≤ unsigned_abs before + absolute_of cells
size-some before count [] = omega arith
size-some before count (cell ∷ cells) = omega (arith, sum_by-cons size_of (record { before = before; count = count; cells = cell ∷ cells }) [])

count-some : (before : ℤ) (count : ℕ) (cells : List (ℕ × ℤ)) → sum_by count_of (row_if_some before count cells) ≤ count
count-some before count [] = omega arith
count-some before count (cell ∷ cells) = omega (arith, sum_by-cons count_of (record { before = before; count = count; cells = cell ∷ cells }) [])

pub AreRows-handed : (z : ℕ) (rows : List RowOf) → AreRows rows → AreRows (handed z rows)
AreRows-handed z rows rules = record {
  ascending = ascending rows rules.ascending;
  sizes = omega (arith, sizes rows, rules.sizes);
  counts = omega (arith, counts rows, rules.counts);
}
  where
    ascending : (rows : List RowOf) → AllByRecursion (λ row. Ascend (ranks_of row)) rows → AllByRecursion (λ row. Ascend (ranks_of row)) (handed z rows)
    ascending [] all = tt
    ascending (row ∷ rows) all = each-append (λ (r : RowOf). Ascend (ranks_of r)) (handed_row z row) (handed z rows) (by (has z row.cells))
        (ascending rows all.1)
      where
        by : (b : Bool) → AllByRecursion (λ row. Ascend (ranks_of row))
            (cond b (row_if_some (row.before +ℤ value_of z row.cells) row.count (after z row.cells)) [])
        by true = each-some (λ (r : RowOf). Ascend (ranks_of r)) (row.before +ℤ value_of z row.cells) row.count (after z row.cells)
            (Ascend-after z row.cells all.0)
        by false = tt

    sizes : (rows : List RowOf) → sum_by size_of (handed z rows) ≤ sum_by size_of rows
    sizes [] = omega arith
    sizes (row ∷ rows) = omega (arith, sum_by-append size_of (handed_row z row) (handed z rows), sum_by-cons size_of row rows, sizes rows, by (has z row.cells))
      where
        by : (b : Bool) → sum_by size_of (cond b (row_if_some (row.before +ℤ value_of z row.cells) row.count (after z row.cells)) []) ≤ size_of row
        by true = omega (arith, ints, size-some (row.before +ℤ value_of z row.cells) row.count (after z row.cells), absolute_of-after z row.cells)
        by false = omega arith

    counts : (rows : List RowOf) → sum_by count_of (handed z rows) ≤ sum_by count_of rows
    counts [] = omega arith
    counts (row ∷ rows) = omega (
      arith,
      sum_by-append count_of (handed_row z row) (handed z rows),
      sum_by-cons count_of row rows,
      counts rows,
      by (has z row.cells),
    )
      where
        by : (b : Bool) → sum_by count_of (cond b (row_if_some (row.before +ℤ value_of z row.cells) row.count (after z row.cells)) []) ≤ row.count
        by true = count-some (row.before +ℤ value_of z row.cells) row.count (after z row.cells)
        by false = omega arith
