-- A cell is seen as the pair (item, value), and the cells of a record as a list of pairs.
use Rattle.std.specs.Prelude.{ℕ, ◌^◌, ◌<◌, ◌≤◌, ℤ, unsigned_abs, List, map, length}
use Rattle.std.specs.List.{All, AllAdjacentBelow, sum_by}
use Rattle.hu_kind.specs.declared.item.Cell.{Cell}

-- a cell as a pair
abbrev pub pair_of : Cell → ℕ × ℤ
pair_of cell = (cell.item.0, cell.value)

-- cells as pairs
abbrev pub pairs_of : List Cell → List (ℕ × ℤ)
pairs_of cells = map pair_of cells

-- the absolute value of a cell's utility
abbrev pub absolute_value : Cell → ℕ
absolute_value cell = unsigned_abs cell.value

-- the rules of a set of cells, read off the cells
pub record AreItemset (cells : List Cell) : Type 0 where
  pub some : 0 < length cells
  pub ascending : AllAdjacentBelow (λ a b. a.item.0 < b.item.0) cells (length cells)
  pub in_range : All (λ cell. cell.item.0 ≤ 2147483647) cells

-- the rules of a record, read off its cells
pub record AreRecord (cells : List Cell) : Type 0 where
  pub itemset : AreItemset cells
  pub few : length cells ≤ 4096
  pub sum_fits : sum_by absolute_value cells < 2 ^ 127
