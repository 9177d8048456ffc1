-- Rows by their ranks: for each list of ranks that rows have, the one row that they make together.
use Rattle.std.specs.Prelude.{◌≡◌, ℕ, nat_eq, ℤ, pos, ◌+ℤ◌, Bool, List, [], ◌∷◌, map}
use Rattle.std.specs.Cmp.Lexicographic.{pointwise}
use Rattle.std.specs.List.{filter, sum_by}
use Rattle.hu_kind.specs.Record.{value_of}
use Rattle.hu_rows.specs.Rows.{RowOf, ranks_of, count_of}

-- whether a row has just these ranks
abbrev pub has_ranks : List ℕ → RowOf → Bool
has_ranks ranks row = pointwise nat_eq (ranks_of row) ranks

-- the rows with just these ranks
abbrev pub with_ranks : List ℕ → List RowOf → List RowOf
with_ranks ranks rows = filter (has_ranks ranks) rows

-- a sum of integers over rows
abbrev pub sum_over : (RowOf → ℤ) → List RowOf → ℤ
sum_over f [] = pos 0
sum_over f (row ∷ rows) = f row +ℤ sum_over f rows

-- a row of these ranks whose `before`, count and values are the sums of those of rows
abbrev pub sum_row : List ℕ → List RowOf → RowOf
sum_row ranks rows = record {
  before = sum_over (λ row. row.before) rows;
  count = sum_by count_of rows;
  cells = map (λ rank. (rank, sum_over (λ row. value_of rank row.cells) rows)) ranks;
}

-- the row that rows of these ranks make together, where there are any
abbrev pub summed : List ℕ → List RowOf → List RowOf
summed ranks [] = []
summed ranks (row ∷ rows) = sum_row ranks (row ∷ rows) ∷ []

-- for each list of ranks that some of the rows have there is one row with just these: the sum of theirs
abbrev pub AreSums : List RowOf → List RowOf → Type 0
AreSums rows answer = (ranks : List ℕ) → with_ranks ranks answer ≡ summed ranks (with_ranks ranks rows)
