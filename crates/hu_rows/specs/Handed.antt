-- Rows with the cells of some ranks alone, and the rows that are handed to what grows a rank.
-- After EFIM (Zida and others, 2015).
use Rattle.std.specs.Prelude.{
  ◌≡◌,
  ℕ,
  nat_lt,
  ◌+◌,
  ◌<◌,
  Bool,
  ℤ,
  pos,
  int_le,
  ◌+ℤ◌,
  List,
  [],
  ◌∷◌,
  map,
  drop,
  length,
  slice_index_or,
  if◌then◌else◌,
}
use Rattle.std.specs.List.{AllByRecursion, filter, flat_map}
use Rattle.hu_kind.specs.Record.{has, value_of}
use Rattle.hu_rows.specs.declared.places.Place.{Place}
use Rattle.hu_rows.specs.declared.tally.Tally.{Tally}
use Rattle.hu_rows.specs.Rows.{RowOf}
use Rattle.hu_totals.specs.Cells.{after}
use Rattle.hu_rows.specs.Tally.{tally_at}

-- whether the bound of a rank reaches a floor
abbrev pub reaches : List Tally → ℤ → ℕ → Bool
reaches tallies floor rank = int_le floor (tally_at tallies rank).bound

-- the cells of some ranks
abbrev pub only : (ℕ → Bool) → List (ℕ × ℤ) → List (ℕ × ℤ)
only p cells = filter (λ cell. p cell.0) cells

-- a row of these cells, where there are two or more
abbrev pub row_if_two : ℤ → ℕ → List (ℕ × ℤ) → List RowOf
row_if_two before count cells =
    if nat_lt 1 (length cells) then record { before = before; count = count; cells = cells } ∷ []
    else []

-- a row with the cells of some ranks, where these are two or more
abbrev pub narrowed_row : (ℕ → Bool) → RowOf → List RowOf
narrowed_row p row = row_if_two row.before row.count (only p row.cells)

-- rows with the cells of some ranks alone, without those that have fewer than two
abbrev pub narrowed : (ℕ → Bool) → List RowOf → List RowOf
narrowed p rows = flat_map (narrowed_row p) rows

-- a row of these cells, where there are any
abbrev pub row_if_some : ℤ → ℕ → List (ℕ × ℤ) → List RowOf
row_if_some before count [] = []
row_if_some before count (cell ∷ cells) = record { before = before; count = count; cells = cell ∷ cells } ∷ []

-- a row that holds a rank and a later one, projected by the first
abbrev pub handed_row : ℕ → RowOf → List RowOf
handed_row z row =
    if has z row.cells then row_if_some (row.before +ℤ value_of z row.cells) row.count
    (after z row.cells) else []

-- rows projected by a rank, without those that no cell is left of
abbrev pub handed : ℕ → List RowOf → List RowOf
handed z rows = flat_map (handed_row z) rows

-- a row past the end, and a cell
abbrev pub no_row : RowOf
no_row = record { before = pos 0; count = 0; cells = [] }

abbrev pub no_cell : ℕ × ℤ
no_cell = (0, pos 0)

-- a row projected by the rank at a place
abbrev pub row_after : RowOf → ℕ → RowOf
row_after row cell =
    record {
      before = row.before +ℤ (slice_index_or row.cells cell no_cell).1;
      count = row.count;
      cells = drop (cell + 1) row.cells;
    }

-- the row that a place gives
abbrev pub row_at : List RowOf → Place → RowOf
row_at rows place = row_after (slice_index_or rows place.row no_row) place.cell

-- a place is that of a cell of the rows
pub record IsWithin (rows : List RowOf) (place : Place) : Type 0 where
  pub row : place.row < length rows
  pub cell : place.cell < length (slice_index_or rows place.row no_row).cells

-- places give these rows
pub record ArePlaces (rows answer : List RowOf) (places : List Place) : Type 0 where
  pub within : AllByRecursion (IsWithin rows) places
  pub give : map (row_at rows) places ≡ answer

-- the places of a rank
abbrev pub places_at : List (List Place) → ℕ → List Place
places_at lists rank = slice_index_or lists rank []

-- no rank has a place
abbrev pub AreEmpty : List (List Place) → Type 0
AreEmpty lists = (rank : ℕ) → places_at lists rank ≡ []

-- the rows that a rank is handed, where it is open
abbrev pub handed_if : Bool → ℕ → List RowOf → List RowOf
handed_if open_to z rows = if open_to then handed z rows else []
