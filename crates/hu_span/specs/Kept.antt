-- The items that a search still takes, and the records in which they alone count.
use Rattle.std.specs.Prelude.{
  ◌≡◌,
  ◌==◌,
  ◌||◌,
  ◌<◌,
  ℕ,
  ℤ,
  pos,
  Bool,
  true,
  false,
  List,
  length,
  map,
  slice_index_or,
  if◌then◌else◌,
}
use Rattle.std.specs.List.{list_any, AllByRecursion}
use Rattle.hu_kind.specs.declared.item.Item.{Item}
use Rattle.hu_span.specs.declared.mark.Mark.{Mark}

-- whether an item is kept: all are, or those of a list
abbrev pub keeps : Bool × List Item → ℕ → Bool
keeps kept item = kept.0 || list_any (λ one. item == one.0) kept.1

-- a table tells of each number that has a place in it whether it is that of one of the items
abbrev pub IsTable : List Item → List Bool → Type 0
IsTable items table = (number : ℕ) → number < length table → slice_index_or table number false
    ≡ list_any (λ one. number == one.0) items

-- a value where it counts, else 0
abbrev pub counted : Bool → ℤ → ℤ
counted counts value = if counts then value else pos 0

-- cells, elements and records in which the values of kept items count alone
abbrev pub weighed : (ℕ → Bool) → List (ℕ × ℤ) → List (ℕ × ℤ)
weighed keep cells = map (λ cell. (cell.0, counted (keep cell.0) cell.1)) cells

abbrev pub weighed_in : (ℕ → Bool) → List (List (ℕ × ℤ)) → List (List (ℕ × ℤ))
weighed_in keep elements = map (weighed keep) elements

abbrev pub weighed_of : (ℕ → Bool) → List (List (List (ℕ × ℤ))) → List (List (List (ℕ × ℤ)))
weighed_of keep records = map (weighed_in keep) records

-- all items of a pattern are kept
abbrev pub AreKept : (ℕ → Bool) → List (List ℕ) → Type 0
AreKept keep pattern = AllByRecursion (AllByRecursion (λ item. keep item ≡ true)) pattern

-- whether a mark is of a kept item
abbrev pub takes : (ℕ → Bool) → Mark → Bool
takes keep mark = keep mark.item.0
