-- A search keeps a row for each record that holds its prefix: what the prefix earns there, and the record's cells
-- after the prefix. A row is a pair (earned, cells).
use Rattle.std.specs.Prelude.{
  ◌≡◌,
  refl,
  ℕ,
  ◌+◌,
  ◌^◌,
  ◌<◌,
  ◌==◌,
  ◌⊎◌,
  ℤ,
  pos,
  ◌+ℤ◌,
  unsigned_abs,
  List,
  [],
  ◌∷◌,
  ◌++◌,
  map,
  if◌then◌else◌,
}
use Rattle.std.specs.List.{flat_map, sum_by, AllByRecursion, Contains}
use Rattle.hu_kind.specs.declared.entry.Entry.{Entry}
use Rattle.hu_kind.specs.Record.{holds, values_of, items_in, absolute_of}
use Rattle.hu_kind.specs.Database.{support}
use Rattle.hu_kind.specs.Itemsets.{occurring_sets}
use Rattle.hu_kind.specs.Order.{Ascend}
use Rattle.hu_kind.specs.Worked.{base_a, entry_of}

-- cells as pairs, and a row as a pair
abbrev pub Cells : Type 0
Cells = List (ℕ × ℤ)

abbrev pub RowOf : Type 0
RowOf = ℤ × Cells

-- what a prefix and a set of later items earn in a row: 0 where its cells don't hold the set
abbrev pub earned_in : List ℕ → RowOf → ℤ
earned_in items row = if holds items row.1 then row.0 +ℤ values_of items row.1 else pos 0

-- what they earn in all rows
abbrev pub earned : List RowOf → List ℕ → ℤ
earned [] items = pos 0
earned (row ∷ rows) items = earned_in items row +ℤ earned rows items

-- the cells after the prefix, row by row
abbrev pub tails : List RowOf → List Cells
tails rows = map (λ row. row.1) rows

-- the entry of a prefix with a set of later items
abbrev pub grown_entry : List ℤ → List RowOf → List ℕ → Entry
grown_entry prefix rows items = record {
  key = prefix ++ map pos items;
  utility = earned rows items;
  support = support (tails rows) items;
}

-- the entries of all sets that grow a prefix
abbrev pub grown_patterns : List ℤ → List RowOf → List Entry
grown_patterns prefix rows = map (grown_entry prefix rows) (occurring_sets (tails rows))

-- an entry is that of a set that grows a prefix
abbrev pub Grows : List ℤ → List RowOf → Entry → Type 0
Grows prefix rows entry = Contains (grown_patterns prefix rows) entry

-- an entry is that of a prefix itself, or of a set that grows it
abbrev pub IsGrowth : List ℤ → List RowOf → Entry → Type 0
IsGrowth prefix rows entry = (grown_entry prefix rows [] ≡ entry) ⊎ Grows prefix rows entry

-- the key of a prefix with an item more
abbrev pub key_with : List ℤ → ℕ → List ℤ
key_with prefix item = prefix ++ pos item ∷ []

-- the row of a prefix with one more item, where the cells hold it
abbrev pub grown_row : ℕ → ℤ → Cells → List RowOf
grown_row item sum [] = []
grown_row item sum (cell ∷ cells) =
    if item == cell.0 then (sum +ℤ cell.1, cells) ∷ [] else grown_row item sum cells

-- the rows of a prefix with one more item
abbrev pub grown_rows : ℕ → List RowOf → List RowOf
grown_rows item rows = flat_map (λ row. grown_row item row.0 row.1) rows

-- the absolute values of a row, summed
abbrev pub weight_of : RowOf → ℕ
weight_of row = unsigned_abs row.0 + absolute_of row.1

-- the items of a row ascend
abbrev pub IsRising : RowOf → Type 0
IsRising row = Ascend (items_in row.1)

-- rows as a search keeps them: the items ascend, and the absolute values of all sum to at most 2 ^ 127 - 1
pub record AreRows (rows : List RowOf) : Type 0 where
  pub ascending : AllByRecursion IsRising rows
  pub sum_fits : sum_by weight_of rows < 2 ^ 127

-- the rows of item 5 in base A
abbrev pub base_a_rows_of_5 : List RowOf
base_a_rows_of_5 =
    (pos 3, (6, pos 5) ∷ []) ∷ (pos 3, []) ∷ (pos 6, (7, pos 5) ∷ []) ∷ (
      pos 3,
      (7, pos 2) ∷ [],
    ) ∷ []

pub base_a_grown_by_5 : grown_rows 5 (map (λ cells. (pos 0, cells)) base_a) ≡ base_a_rows_of_5
base_a_grown_by_5 = refl

-- and the patterns that grow it
pub patterns_after_5 : grown_patterns (pos 5 ∷ []) base_a_rows_of_5
    ≡ entry_of (5 ∷ 7 ∷ []) 16 2 ∷ entry_of (5 ∷ 6 ∷ []) 8 1 ∷ []
patterns_after_5 = refl
