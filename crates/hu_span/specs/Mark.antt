-- Marks: the cells of an item at which a pattern ends, in records by their numbers.
use Rattle.std.specs.Prelude.{◌<◌, ◌==◌, ℕ, suc, ℤ, Bool, List, [], ◌∷◌, ◌++◌, map, length, slice_index_or}
use Rattle.std.specs.List.{filter}
use Rattle.hu_chain.specs.declared.place.Place.{Place}
use Rattle.hu_chain.specs.Bound.{IsFit}
use Rattle.hu_chain.specs.Place.{chain_of}
use Rattle.hu_chain.specs.Search.{IsPlaceOf}
use Rattle.hu_span.specs.declared.mark.Mark.{Mark}

-- the mark of an item at a place in a row
abbrev pub mark_at : ℕ → ℕ → Place → Mark
mark_at row item place = record { item = record { 0 = item }; row = row; place = place }

-- whether a mark is of an item
abbrev pub is_of : ℕ → Mark → Bool
is_of item mark = item == mark.item.0

-- the marks of an item
abbrev pub marks_with : ℕ → List Mark → List Mark
marks_with item marks = filter (is_of item) marks

-- the places of marks
abbrev pub places_of : List Mark → List Place
places_of marks = map (λ mark. mark.place) marks

-- the places of a pattern that ends with an item, as marks, in records of which the first has a number
abbrev pub marks_from : List (List ℕ) → ℕ → ℕ → List (List (List (ℕ × ℤ))) → List Mark
marks_from pattern item row [] = []
marks_from pattern item row (r ∷ rs) =
    map (mark_at row item) (chain_of pattern r) ++ marks_from pattern item (suc row) rs

-- and in all records
abbrev pub marks_of : List (List (List (ℕ × ℤ))) → List (List ℕ) → ℕ → List Mark
marks_of records pattern item = marks_from pattern item 0 records

-- a record, by its number
abbrev pub record_at : List (List (List (ℕ × ℤ))) → ℕ → List (List (ℕ × ℤ))
record_at records row = slice_index_or records row []

-- a mark of an item stands at its cell in one of the records, and no sum there is too large
pub record IsMark (records : List (List (List (ℕ × ℤ)))) (item : ℕ) (mark : Mark) : Type 0 where
  pub within : mark.row < length records
  pub place : IsPlaceOf (record_at records mark.row) item mark.place
  pub fit : IsFit mark.place
