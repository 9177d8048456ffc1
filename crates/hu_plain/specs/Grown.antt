-- The rows that items make of the rows of a prefix, each with its item.
use Rattle.std.specs.Prelude.{◌≡◌, ◌↔◌, ℕ, ◌<◌, ◌≤◌, ◌==◌, ℤ, ◌+ℤ◌, List, [], ◌∷◌, map, drop, length}
use Rattle.std.specs.List.{Contains, filter, flat_map}
use Rattle.std.specs.List.Sorted.{IsNonDecreasingBy, IsPartitionPoint}
use Rattle.hu_kind.specs.declared.item.Item.{Item}
use Rattle.hu_kind.specs.Cell.{pairs_of}
use Rattle.hu_plain.specs.declared.grown.Grown.{Grown}
use Rattle.hu_plain.specs.declared.row.Row.{Row}
use Rattle.hu_plain.specs.Row.{Cells, RowOf, grown_rows}
use Rattle.hu_plain.specs.View.{row_of}

-- what each item of a row's cells makes of the row
abbrev pub grown_cells : ℤ → Cells → List (ℕ × RowOf)
grown_cells sum [] = []
grown_cells sum (cell ∷ cells) = (cell.0, (sum +ℤ cell.1, cells)) ∷ grown_cells sum cells

-- what the items of a row's cells from a place on make of it
abbrev pub grown_from : Row → ℕ → List (ℕ × RowOf)
grown_from row place = grown_cells row.earned (pairs_of (drop place row.tail.now))

-- what each item makes of each row
abbrev pub all_grown : List RowOf → List (ℕ × RowOf)
all_grown rows = flat_map (λ row. grown_cells row.0 row.1) rows

-- a grown row with its item as a pair
abbrev pub pair_with : Grown → ℕ × RowOf
pair_with grown = (grown.item.0, row_of grown.row)

abbrev pub pairs_with : List Grown → List (ℕ × RowOf)
pairs_with grown = map pair_with grown

-- the item that made a row
abbrev pub item_at : Grown → ℕ
item_at grown = grown.item.0

-- so many grown rows are of items below an item, and so many of items up to it
abbrev pub AreBelow : ℕ → List Grown → ℕ → Type 0
AreBelow item grown count =
    IsPartitionPoint (λ one. item_at one < item) (λ one. item ≤ item_at one) grown count

abbrev pub AreUpto : ℕ → List Grown → ℕ → Type 0
AreUpto item grown count =
    IsPartitionPoint (λ one. item_at one ≤ item) (λ one. item < item_at one) grown count

-- the rows that an item made
abbrev pub made_of : ℕ → List Grown → List RowOf
made_of item grown = map (λ one. row_of one.row) (filter (λ one. item == one.item.0) grown)

-- grown rows stand by item, and those of an item are just the rows that it makes
pub record AreGrown (rows : List RowOf) (grown : List Grown) : Type 0 where
  pub rising : IsNonDecreasingBy item_at grown
  pub each : (item : ℕ) → made_of item grown ≡ grown_rows item rows

-- items are just those by which some row grows
abbrev pub AreItems : List RowOf → List Item → Type 0
AreItems rows items = (item : Item) → Contains items item ↔ (0 < length (grown_rows item.0 rows))
