-- A search for sequences keeps, for each record that holds its prefix, the record's itemsets as places, from the first on
-- in which the prefix ends. A place is a pair (rows, cells): the itemset's cells, and a row (earned, cells after it) for
-- each occurrence of the prefix that ends there and is kept. Of those that end in one itemset the best is enough. The
-- empty prefix ends before the first itemset. After USpan (Yin, Zheng and Cao, 2012).
use Rattle.std.specs.Prelude.{
  ◌≡◌,
  refl,
  ℕ,
  ◌+◌,
  ◌^◌,
  ◌<◌,
  max,
  Bool,
  true,
  false,
  ⊤,
  ℤ,
  pos,
  ◌+ℤ◌,
  unsigned_abs,
  Option,
  None,
  Some,
  option_map,
  option_to_list,
  List,
  [],
  ◌∷◌,
  map,
  if◌then◌else◌,
}
use Rattle.std.specs.List.{filter, sum_by, AllByRecursion}
use Rattle.hu_kind.specs.Record.{holds, values_of, items_in, absolute_of}
use Rattle.hu_kind.specs.Worked.{later_is_greatest}
use Rattle.hu_kind.specs.Sequence.{better, best_utility}
use Rattle.hu_kind.specs.Order.{Ascend}
use Rattle.hu_plain.specs.declared.places.Step.{Step}
use Rattle.hu_plain.specs.declared.places.Step.TheVariants.{Into, After}
use Rattle.hu_plain.specs.Row.{Cells, RowOf, grown_rows, IsRising}

-- a place as a pair, and the places of a record
abbrev pub PlaceOf : Type 0
PlaceOf = List RowOf × Cells

abbrev pub Places : Type 0
Places = List PlaceOf

-- the itemsets of places
abbrev pub itemsets_of : Places → List Cells
itemsets_of places = map (λ place. place.1) places

-- the best that further items earn from rows of one itemset, where a given utility comes after it
abbrev pub best_from : List ℕ → Option ℤ → List RowOf → Option ℤ
best_from items later [] = None
best_from items later (row ∷ rows) = better
    (if holds items row.1 then option_map (λ u. (row.0 +ℤ values_of items row.1) +ℤ u) later else None)
    (best_from items later rows)

-- the best utility of the prefix with further items in its last itemset and further itemsets after it
abbrev pub grown_best : List ℕ → List (List ℕ) → Places → Option ℤ
grown_best items rest [] = None
grown_best items rest (place ∷ places) = better
    (best_from items (best_utility rest (itemsets_of places)) place.0)
    (grown_best items rest places)

-- the best of the sums that rows earned
abbrev pub best_sum : List RowOf → Option ℤ
best_sum [] = None
best_sum (row ∷ rows) = better (Some row.0) (best_sum rows)

-- the best of the sums at places: the best utility of the prefix itself
abbrev pub best_of : Places → Option ℤ
best_of [] = None
best_of (place ∷ places) = better (best_sum place.0) (best_of places)

-- the row of a whole itemset after a sum, if there is one
abbrev pub fresh : Option ℤ → Cells → List RowOf
fresh best cells = option_to_list (option_map (λ sum. (sum, cells)) best)

-- the places of the prefix with an item in its last itemset
abbrev pub into : ℕ → Places → Places
into item places = map (λ place. (grown_rows item place.0, place.1)) places

-- the places of the prefix with an item in a new itemset: each goes with the best sum before it
abbrev pub after : ℕ → Option ℤ → Places → Places
after item best [] = []
after item best (place ∷ places) =
    (grown_rows item (fresh best place.1), place.1) ∷ after item
    (better best (best_sum place.0)) places

-- the places from the first on in which the prefix ends
abbrev pub begun : Places → Places
begun [] = []
begun (([], cells) ∷ places) = begun places
begun ((row ∷ rows, cells) ∷ places) = (row ∷ rows, cells) ∷ places

-- the places after a step
abbrev pub stepped : Step → Places → Places
stepped (Into item) places = begun (into item.0 places)
stepped (After item) places = begun (after item.0 None places)

-- whether the prefix occurs in a record: whether it has a place there
abbrev pub occurs_at : Places → Bool
occurs_at [] = false
occurs_at (place ∷ places) = true

-- the places after a step in each record in which the prefix still occurs
abbrev pub all_stepped : Step → List Places → List Places
all_stepped step rows = filter occurs_at (map (stepped step) rows)

-- the places of a record for the empty prefix
abbrev pub first_places : List Cells → Places
first_places elements = ((pos 0, []) ∷ [], []) ∷ map (λ cells. ([], cells)) elements

-- the most that the sums and the cells after them come to at one place, by what a sum and an itemset count for
abbrev pub reach : (ℤ → ℕ) → (Cells → ℕ) → Places → ℕ
reach h g [] = 0
reach h g (place ∷ places) = max
    (sum_by (λ row. (h row.0 + g row.1) + sum_by g (itemsets_of places)) place.0)
    (reach h g places)

-- the absolute values of an occurrence and of all after it, at most
abbrev pub reach_of : Places → ℕ
reach_of places = reach unsigned_abs absolute_of places

-- places that begin with one in which the prefix ends
abbrev pub IsBegun : Places → Type 0
IsBegun [] = ⊥
IsBegun (([], cells) ∷ places) = ⊥
IsBegun ((row ∷ rows, cells) ∷ places) = ⊤

-- a place whose items ascend
abbrev pub IsAscending : PlaceOf → Type 0
IsAscending place = AllByRecursion IsRising place.0 × Ascend (items_in place.1)

abbrev pub AreAscending : Places → Type 0
AreAscending places = AllByRecursion IsAscending places

-- places as a search keeps them: they begin with one in which the prefix ends, the items ascend, and no sum is too large
pub record ArePlaces (rows : List Places) : Type 0 where
  pub begin : AllByRecursion IsBegun rows
  pub ascending : AllByRecursion AreAscending rows
  pub sum_fits : sum_by reach_of rows < 2 ^ 127

-- the places in the record `1[2] -1 1[5] -1 2[3] -1` of `1 -1`, and the best utility of `1 -1 2 -1`
pub places_of_1 : after 1 None (first_places later_is_greatest) ≡
    ([], []) ∷ ((pos 2, []) ∷ [], (1, pos 2) ∷ []) ∷ ((pos 5, []) ∷ [], (1, pos 5) ∷ []) ∷ (
      [],
      (2, pos 3) ∷ [],
    ) ∷ []
places_of_1 = refl

pub best_of_1_and_2 : best_of (after 2 None (after 1 None (first_places later_is_greatest))) ≡ Some (pos 8)
best_of_1_and_2 = refl
