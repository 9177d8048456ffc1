-- A row as a search keeps it is seen as the pair of what its prefix earned and the pairs of its cells.
use Rattle.std.specs.Prelude.{◌≡◌, ℕ, pos, Option, option_map, option_to_list, List, ◌++◌, map}
use Rattle.hu_kind.specs.declared.item.Item.{Item}
use Rattle.hu_kind.specs.Cell.{pairs_of}
use Rattle.hu_plain.specs.declared.row.Row.{Row}
use Rattle.hu_plain.specs.Row.{Cells, RowOf}

-- a row as a pair
abbrev pub row_of : Row → RowOf
row_of row = (row.earned, pairs_of row.tail.now)

-- rows as pairs
abbrev pub rows_of : List Row → List RowOf
rows_of rows = map row_of rows

-- the row of the empty prefix in a record
abbrev pub first_row : Cells → RowOf
first_row cells = (pos 0, cells)

-- a row, if there is one
abbrev pub rows_in : Option Row → List RowOf
rows_in row = option_to_list (option_map row_of row)

-- the numbers of items
abbrev pub numbers_of : List Item → List ℕ
numbers_of items = map (λ item. item.0) items

-- items with more of these numbers
abbrev pub Appends : List Item → List ℕ → List Item → Type 0
Appends old more new = numbers_of new ≡ numbers_of old ++ more
