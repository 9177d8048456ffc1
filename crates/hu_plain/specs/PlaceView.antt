-- How places and steps as a search keeps them are seen.
use Rattle.std.specs.Prelude.{◌<◌, ℕ, List, [], ◌∷◌, ◌++◌, map, length}
use Rattle.std.specs.Global.{Vec}
use Rattle.std.specs.List.{Contains, flat_map}
use Rattle.hu_kind.specs.declared.item.Item.{Item}
use Rattle.hu_kind.specs.Cell.{pairs_of}
use Rattle.hu_kind.specs.Record.{items_in}
use Rattle.hu_plain.specs.declared.places.Place.{Place}
use Rattle.hu_plain.specs.declared.places.Step.{Step}
use Rattle.hu_plain.specs.declared.places.Step.TheVariants.{Into, After}
use Rattle.hu_plain.specs.Row.{RowOf}
use Rattle.hu_plain.specs.View.{rows_in}
use Rattle.hu_plain.specs.Place.{PlaceOf, Places, all_stepped, begun, itemsets_of}

-- a place as a pair
abbrev pub place_of : Place → PlaceOf
place_of place = (rows_in place.end, pairs_of place.cells.now)

-- places as pairs
abbrev pub places_of : List Place → Places
places_of places = map place_of places

-- the places of all records
abbrev pub all_places : List (Vec Place) → List Places
all_places rows = map (λ places. places_of places.items) rows

-- places with one more, but with none before the first in which the prefix ends
abbrev pub pushed : Places → PlaceOf → Places
pushed [] place = begun (place ∷ [])
pushed (first ∷ places) place = (first ∷ places) ++ place ∷ []

-- the items after the prefix in rows
abbrev pub items_after : List RowOf → List ℕ
items_after rows = flat_map (λ row. items_in row.1) rows

-- all items at places
abbrev pub items_at : Places → List ℕ
items_at places = flat_map items_in (itemsets_of places)

-- the items that can join the last itemset in a record
abbrev pub joining : Places → List ℕ
joining places = flat_map (λ place. items_after place.0) places

-- the items that can begin a new itemset in a record: those after the first place
abbrev pub following : Places → List ℕ
following [] = []
following (place ∷ places) = items_at places

-- the steps of an item
abbrev pub step_into : Item → Step
step_into item = Into item

abbrev pub step_after : Item → Step
step_after item = After item

-- the steps that the prefix can take in some record are among these
abbrev pub HasSteps : List Places → List Step → Type 0
HasSteps rows steps = (step : Step) → 0 < length (all_stepped step rows) → Contains steps step
