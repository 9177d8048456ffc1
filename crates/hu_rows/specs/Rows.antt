-- Rows over ranks: what a set of ranks earns over rows, and how many records these stand for. A row is a record, or
-- several with the same ranks, from which a prefix of the search was taken away. After EFIM (Zida and others, 2015).
use Rattle.std.specs.Prelude.{
  ℕ,
  ◌+◌,
  ◌^◌,
  ◌<◌,
  ◌≢◌,
  ℤ,
  pos,
  ◌+ℤ◌,
  unsigned_abs,
  List,
  [],
  ◌∷◌,
  ⊤,
  if◌then◌else◌,
}
use Rattle.std.specs.List.{AllByRecursion, flat_map, sum_by}
use Rattle.hu_kind.specs.Order.{Ascend}
use Rattle.hu_kind.specs.Record.{items_in, holds, values_of, absolute_of}

-- a row: what the prefix earned in it, for how many records it stands, and its cells as pairs (rank, value)
pub record RowOf : Type 0 where
  pub before : ℤ
  pub count : ℕ
  pub cells : List (ℕ × ℤ)

-- a record as a row of its own
abbrev pub unmerged : List (ℕ × ℤ) → RowOf
unmerged cells = record { before = pos 0; count = 1; cells = cells }

-- the ranks of a row
abbrev pub ranks_of : RowOf → List ℕ
ranks_of row = items_in row.cells

-- what a set earns in a row: the row's `before` and the set's cells where the row holds the set, else 0
abbrev pub over_row : List ℕ → RowOf → ℤ
over_row set row = if holds set row.cells then row.before +ℤ values_of set row.cells else pos 0

-- for how many records a row stands that holds a set
abbrev pub count_in : List ℕ → RowOf → ℕ
count_in set row = if holds set row.cells then row.count else 0

-- what a set earns over rows
abbrev pub over : List RowOf → List ℕ → ℤ
over [] set = pos 0
over (row ∷ rows) set = over_row set row +ℤ over rows set

-- for how many records the rows stand that hold a set
abbrev pub count_over : List RowOf → List ℕ → ℕ
count_over [] set = 0
count_over (row ∷ rows) set = count_in set row + count_over rows set

-- the absolute values of a row's `before` and cells together
abbrev pub size_of : RowOf → ℕ
size_of row = unsigned_abs row.before + absolute_of row.cells

-- for how many records a row stands
abbrev pub count_of : RowOf → ℕ
count_of row = row.count

-- the rules of rows: ranks ascend strictly in each, absolute values sum to less than 2 ^ 127, counts to less than
-- 2 ^ 64
pub record AreRows (rows : List RowOf) : Type 0 where
  pub ascending : AllByRecursion (λ row. Ascend (ranks_of row)) rows
  pub sizes : sum_by size_of rows < 2 ^ 127
  pub counts : sum_by count_of rows < 2 ^ 64

-- no two rows have the same ranks
abbrev pub AreApart : List RowOf → Type 0
AreApart [] = ⊤
AreApart (row ∷ rows) = AllByRecursion (λ other. ranks_of row ≢ ranks_of other) rows × AreApart rows

-- every row stands for a record at least
abbrev pub AreCounted : List RowOf → Type 0
AreCounted rows = AllByRecursion (λ row. 0 < row.count) rows

-- every rank of the rows
abbrev pub ranks_in : List RowOf → List ℕ
ranks_in rows = flat_map ranks_of rows
