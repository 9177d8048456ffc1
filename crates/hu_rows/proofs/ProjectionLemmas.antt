-- Rows projected by a rank: what sets earn over them, and that they keep the rules of rows.
use Rattle.std.proofs.Common.{◌≡◌, ℕ, ◌+◌, ◌<◌, ◌≤◌, Bool, true, false, cond, ◌&&◌, pos, ◌+ℤ◌, List, [], ◌∷◌, ◌++◌, inl, inr, refl, sym, ◌∙◌, subst}
use Rattle.std.proofs.Common.{arith, sum_by}
use Rattle.std.specs.List.{AllByRecursion}
use Rattle.std.proofs.lemmas.Int.{ints}
use Rattle.std.proofs.lemmas.List.Sums.{sum_by-cons, sum_by-append}
use Rattle.hu_kind.specs.Order.{Ascend}
use Rattle.hu_kind.specs.Record.{has, holds, value_of, values_of}
use Rattle.hu_kind.proofs.lemmas.Members.{Member, Member-from_flat_map, Member-flat_map}
use Rattle.hu_rows.specs.Rows.{RowOf, AreRows, over, over_row, count_over, count_in, count_of, size_of, ranks_of, ranks_in}
use Rattle.hu_rows.specs.Projection.{projected, projected_row}
use Rattle.hu_totals.specs.Cells.{after}
use Rattle.hu_totals.proofs.lemmas.AfterLemmas.{Ascend-after, Member-after, absolute_of-after, holds-after, values_of-after}
use Rattle.hu_kind.proofs.lemmas.Each.{each-append}

pub over-append : (rows others : List RowOf) (set : List ℕ) → over (rows ++ others) set ≡ over rows set +ℤ over others set
over-append [] others set = omega (arith, ints)
over-append (row ∷ rows) others set = omega (arith, ints, over-append rows others set)

pub count_over-append : (rows others : List RowOf) (set : List ℕ) → count_over (rows ++ others) set ≡ count_over rows set + count_over others set
count_over-append [] others set = omega arith
count_over-append (row ∷ rows) others set = omega (arith, count_over-append rows others set)

over-projected_row : (z : ℕ) (row : RowOf) (set : List ℕ) → AllByRecursion (λ rank. z < rank) set → over (projected_row z row) set ≡ over_row (z ∷ set) row
over-projected_row z row set above = by (has z row.cells)
  where
    part : (e : Bool) → cond e (row.before +ℤ value_of z row.cells +ℤ values_of set row.cells) (pos 0) +ℤ pos 0
        ≡ cond e (row.before +ℤ (value_of z row.cells +ℤ values_of set row.cells)) (pos 0)
    part true = omega (arith, ints)
    part false = omega (arith, ints)

    by : (b : Bool) → over (cond b (record { before = row.before +ℤ value_of z row.cells; count = row.count; cells = after z row.cells } ∷ []) []) set
        ≡ cond (b && holds set row.cells) (row.before +ℤ (value_of z row.cells +ℤ values_of set row.cells)) (pos 0)
    by true = rw (holds-after z set row.cells above, values_of-after z set row.cells above) (part (holds set row.cells))
    by false = refl

pub over-projected : (z : ℕ) (rows : List RowOf) (set : List ℕ) → AllByRecursion (λ rank. z < rank) set → over (projected z rows) set ≡ over rows (z ∷ set)
over-projected z [] set above = refl
over-projected z (row ∷ rows) set above =
    over-append (projected_row z row) (projected z rows) set
    ∙ (λ j. over-projected_row z row set above j +ℤ over-projected z rows set above j)

count_over-projected_row : (z : ℕ) (row : RowOf) (set : List ℕ) → AllByRecursion (λ rank. z < rank) set
    → count_over (projected_row z row) set ≡ count_in (z ∷ set) row
count_over-projected_row z row set above = by (has z row.cells)
  where
    part : (e : Bool) → cond e row.count 0 + 0 ≡ cond e row.count 0
    part e = omega arith

    by : (b : Bool) → count_over (cond b (record { before = row.before +ℤ value_of z row.cells; count = row.count; cells = after z row.cells } ∷ []) []) set
        ≡ cond (b && holds set row.cells) row.count 0
    by true = rw (holds-after z set row.cells above) (part (holds set row.cells))
    by false = refl

pub count_over-projected : (z : ℕ) (rows : List RowOf) (set : List ℕ) → AllByRecursion (λ rank. z < rank) set
    → count_over (projected z rows) set ≡ count_over rows (z ∷ set)
count_over-projected z [] set above = refl
count_over-projected z (row ∷ rows) set above =
    count_over-append (projected_row z row) (projected z rows) set
    ∙ (λ j. count_over-projected_row z row set above j + count_over-projected z rows set above j)

-- ---- the rules of rows

ascending-projected : (z : ℕ) (rows : List RowOf) → AllByRecursion (λ row. Ascend (ranks_of row)) rows
    → AllByRecursion (λ row. Ascend (ranks_of row)) (projected z rows)
ascending-projected z [] all = tt
ascending-projected z (row ∷ rows) all = each-append (λ row. Ascend (ranks_of row)) (projected_row z row) (projected z rows) (by (has z row.cells))
    (ascending-projected z rows all.1)
  where
    by : (b : Bool) → AllByRecursion (λ row. Ascend (ranks_of row))
        (cond b (record { before = row.before +ℤ value_of z row.cells; count = row.count; cells = after z row.cells } ∷ []) [])
    by true = (Ascend-after z row.cells all.0, tt)
    by false = tt

sizes-projected : (z : ℕ) (rows : List RowOf) → sum_by size_of (projected z rows) ≤ sum_by size_of rows
sizes-projected z [] = omega arith
sizes-projected z (row ∷ rows) =
    omega (arith, sum_by-append size_of (projected_row z row) (projected z rows), sum_by-cons size_of row rows, sizes-projected z rows, by (has z row.cells))
  where
    by : (b : Bool)
        → sum_by size_of (cond b (record { before = row.before +ℤ value_of z row.cells; count = row.count; cells = after z row.cells } ∷ []) []) ≤ size_of row
    by true = omega (arith, ints, absolute_of-after z row.cells)
    by false = omega arith

counts-projected : (z : ℕ) (rows : List RowOf) → sum_by count_of (projected z rows) ≤ sum_by count_of rows
counts-projected z [] = omega arith
counts-projected z (row ∷ rows) =
    omega (arith, sum_by-append count_of (projected_row z row) (projected z rows), sum_by-cons count_of row rows, counts-projected z rows, by (has z row.cells))
  where
    by : (b : Bool)
        → sum_by count_of (cond b (record { before = row.before +ℤ value_of z row.cells; count = row.count; cells = after z row.cells } ∷ []) []) ≤ row.count
    by true = omega arith
    by false = omega arith

pub AreRows-projected : (z : ℕ) (rows : List RowOf) → AreRows rows → AreRows (projected z rows)
AreRows-projected z rows rules = record {
  ascending = ascending-projected z rows rules.ascending;
  sizes = omega (arith, sizes-projected z rows, rules.sizes);
  counts = omega (arith, counts-projected z rows, rules.counts);
}

-- the ranks of projected rows are after z, and among those of the rows
pub Member-projected : (z rank : ℕ) (rows : List RowOf) → Member rank (ranks_in (projected z rows)) → (z < rank) × Member rank (ranks_in rows)
Member-projected z rank rows m =
    let row = Member-from_flat_map ranks_of rank (projected z rows) m in
    let from = Member-from_flat_map (projected_row z) row.0 rows row.1 in
    let both = by from.0 row.0 (has z from.0.cells) from.2 row.2 in
    (both.0, Member-flat_map ranks_of from.0 rank rows from.1 both.1)
  where
    by : (row other : RowOf) (b : Bool)
        → Member other (cond b (record { before = row.before +ℤ value_of z row.cells; count = row.count; cells = after z row.cells } ∷ []) [])
        → Member rank (ranks_of other)
        → (z < rank) × Member rank (ranks_of row)
    by row other true (inl e) n = Member-after z rank row.cells (subst (λ (r : RowOf). Member rank (ranks_of r)) (sym e) n)
    by row other true (inr e) n = absurd e
    by row other false e n = absurd e
