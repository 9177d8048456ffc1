-- Rows of the same ranks that stand side by side become one, whose `before`, count and values are the sums. Rows are
-- put in order by their ranks from the last backwards: projection keeps this order. After EFIM (Zida and others, 2015).
use Rattle.std.specs.Prelude.{◌≡◌, ℕ, ◌+◌, ℤ, ◌+ℤ◌, List, [], ◌∷◌, reverse, if◌then◌else◌}
use Rattle.std.specs.declared.cmp.Ordering.{Ordering}
use Rattle.std.specs.List.{Contains}
use Rattle.std.specs.Ordering.{nat_cmp, is_eq}
use Rattle.std.specs.Cmp.Lexicographic.{slice_cmp}
use Rattle.hu_rows.specs.Rows.{RowOf, ranks_of, ranks_in, over, count_over, AreRows, AreApart, AreCounted}
use Rattle.hu_rows.specs.Sums.{AreSums}

-- rows by their ranks from the last backwards
abbrev pub row_cmp : RowOf → RowOf → Ordering
row_cmp a b = slice_cmp nat_cmp (reverse (ranks_of a)) (reverse (ranks_of b))

-- cells with the values of others added place by place
abbrev pub added_cells : List (ℕ × ℤ) → List (ℕ × ℤ) → List (ℕ × ℤ)
added_cells [] others = []
added_cells (cell ∷ cells) [] = cell ∷ cells
added_cells (cell ∷ cells) (other ∷ others) = (cell.0, cell.1 +ℤ other.1) ∷ added_cells cells others

-- a row with another of the same ranks added
abbrev pub added : RowOf → RowOf → RowOf
added row other =
    record {
      before = row.before +ℤ other.before;
      count = row.count + other.count;
      cells =
          added_cells row.cells other.cells;
    }

-- a row and those after it, where rows of the same ranks that stand side by side become one
abbrev pub merged_from : RowOf → List RowOf → List RowOf
merged_from row [] = row ∷ []
merged_from row (next ∷ rows) =
    if is_eq (row_cmp row next) then merged_from
    (added row next) rows else row ∷ merged_from next rows

-- rows where those of the same ranks that stand side by side become one
abbrev pub merged : List RowOf → List RowOf
merged [] = []
merged (row ∷ rows) = merged_from row rows

-- rows with those of the same ranks made one, in any order
pub record IsMerging (rows answer : List RowOf) : Type 0 where
  pub over : (set : List ℕ) → over answer set ≡ over rows set
  pub count : (set : List ℕ) → count_over answer set ≡ count_over rows set
  pub rules : AreRows rows → AreRows answer
  pub sums : AreRows rows → AreSums rows answer
  pub apart : AreApart answer
  pub counted : AreCounted rows → AreCounted answer
  pub ranks : (rank : ℕ) → Contains (ranks_in answer) rank → Contains (ranks_in rows) rank
