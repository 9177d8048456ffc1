-- A row is seen without lives: as its `before`, its count and its cells as pairs (rank, value).
use Rattle.std.specs.Prelude.{ℕ, ◌<◌, ◌^◌, ℤ, Bool, List, map, length}
use Rattle.std.specs.List.{All, AllAdjacentBelow, sum_by}
use Rattle.std.specs.Ordering.{is_lt, is_eq}
use Rattle.hu_totals.specs.declared.ranked.Dense.{Dense}
use Rattle.hu_totals.specs.View.{cells_of}
use Rattle.hu_rows.specs.declared.rows.Row.{Row}
use Rattle.hu_rows.specs.declared.merge.RowSum.{RowSum}
use Rattle.hu_rows.specs.Rows.{RowOf, size_of, count_of}
use Rattle.hu_rows.specs.Merging.{row_cmp}

-- a row of these parts
abbrev pub row_with : ℤ → ℕ → List Dense → RowOf
row_with before count cells = record { before = before; count = count; cells = cells_of cells }

-- a row without lives
abbrev pub row_of : Row → RowOf
row_of row = row_with row.before row.count row.cells.now

-- rows without lives
abbrev pub rows_of : List Row → List RowOf
rows_of rows = map row_of rows

-- whether a row stands before another in the order by ranks from the last backwards
abbrev pub row_below : Row → Row → Bool
row_below = λ a b. is_lt (row_cmp (row_of a) (row_of b))

-- whether a row has the ranks of one seen without lives
abbrev pub same_ranks : RowOf → Row → Bool
same_ranks first row = is_eq (row_cmp first (row_of row))

-- the sums of rows as a row
abbrev pub sum_of : RowSum → RowOf
sum_of sum = row_with sum.before sum.count sum.cells.items

-- the rules of rows, read off the rows
pub record KeepRules (rows : List Row) : Type 0 where
  pub ascending : All (λ row. AllAdjacentBelow (λ a b. a.rank < b.rank) row.cells.now
      (length row.cells.now)) rows
  pub sizes : sum_by size_of (rows_of rows) < 2 ^ 127
  pub counts : sum_by count_of (rows_of rows) < 2 ^ 64
