-- What a walk keeps of the records that hold a prefix, and the sums over these.
use Rattle.std.specs.Prelude.{
  ◌≡◌,
  ⊤,
  ◌⊎◌,
  ℕ,
  ◌+◌,
  ◌^◌,
  ◌<◌,
  ◌≤◌,
  ℤ,
  pos,
  ◌+ℤ◌,
  unsigned_abs,
  Option,
  None,
  Some,
  List,
  [],
  ◌∷◌,
  map,
  if◌then◌else◌,
}
use Rattle.std.specs.List.{filter, sum_by, AllByRecursion}
use Rattle.hu_kind.specs.Cell.{pairs_of}
use Rattle.hu_kind.specs.Order.{Ascend}
use Rattle.hu_kind.specs.Record.{has, holds, items_in, value_of, values_of, positive_part, absolute_of}
use Rattle.hu_proof.specs.Bounds.{is_among, after, later_gain}
use Rattle.hu_proof.specs.declared.place.Place.{Place}

-- an item is one of these
abbrev pub IsOneOf : ℕ → List ℕ → Type 0
IsOneOf x [] = ⊥
IsOneOf x (y ∷ ys) = (y ≡ x) ⊎ IsOneOf x ys

-- no item stands twice
abbrev pub Apart : List ℕ → Type 0
Apart [] = ⊤
Apart (x ∷ xs) = (IsOneOf x xs → ⊥) × Apart xs

-- items that stand in an order one after the other
abbrev pub Follows : List ℕ → List ℕ → Type 0
Follows later [] = ⊤
Follows later (x ∷ xs) = IsOneOf x later × Follows (after x later) xs

-- a record with what a prefix earns there
abbrev pub PlaceOf : Type 0
PlaceOf = List (ℕ × ℤ) × ℤ

abbrev pub place_of : Place → PlaceOf
place_of place = (pairs_of place.cells.now, place.own)

abbrev pub places_of : List Place → List PlaceOf
places_of places = map place_of places

-- the records that hold a prefix, each with what the prefix earns there
abbrev pub held : List (List (ℕ × ℤ)) → List ℕ → List PlaceOf
held records prefix = map (λ r. (r, values_of prefix r)) (filter (holds prefix) records)

-- the value of an item in a record that has it
abbrev pub value_in : ℕ → List (ℕ × ℤ) → Option ℤ
value_in item cells = if has item cells then Some (value_of item cells) else None

-- those that hold an item more
abbrev pub narrowed : ℕ → List PlaceOf → List PlaceOf
narrowed item [] = []
narrowed item (place ∷ places) =
    if has item place.0 then (place.0, place.1 +ℤ value_of item place.0) ∷ narrowed item places else
    narrowed item places

-- what the prefix earns in all of them
abbrev pub earned : List PlaceOf → ℤ
earned [] = pos 0
earned (place ∷ places) = place.1 +ℤ earned places

-- the most that the prefix may earn in a record with an item and with later ones
abbrev pub share : ℕ → List ℕ → PlaceOf → ℤ
share item later place =
    if has item place.0 then positive_part ((place.1 +ℤ value_of item place.0)
    +ℤ later_gain later place.0) else pos 0

abbrev pub shares : ℕ → List ℕ → List PlaceOf → ℤ
shares item later [] = pos 0
shares item later (place ∷ places) = share item later place +ℤ shares item later places

-- the absolute values of the later items of a record together
abbrev pub later_size : List ℕ → List (ℕ × ℤ) → ℕ
later_size later [] = 0
later_size later (cell ∷ cells) =
    (if is_among cell.0 later then unsigned_abs cell.1 else 0) + later_size later cells

-- what the prefix earns in a record and the absolute values of its later items are within the record's
abbrev pub IsRoomy : List ℕ → PlaceOf → Type 0
IsRoomy later place = unsigned_abs place.1 + later_size later place.0 ≤ absolute_of place.0

-- the items of a record ascend
abbrev pub Rises : PlaceOf → Type 0
Rises place = Ascend (items_in place.0)

-- as they do in each of some records
abbrev pub AllAscend : List (List (ℕ × ℤ)) → Type 0
AllAscend records = AllByRecursion (λ r. Ascend (items_in r)) records

-- and the records' are at most 2 ^ 127 - 1 together
pub record HasRoom (later : List ℕ) (places : List PlaceOf) : Type 0 where
  pub apart : Apart later
  pub each : AllByRecursion (IsRoomy later) places
  pub rises : AllByRecursion Rises places
  pub sum : sum_by (λ place. absolute_of place.0) places < 2 ^ 127

-- an item stands in an order, and after it these do
pub record Stands (order : List ℕ) (item : ℕ) (later : List ℕ) : Type 0 where
  pub apart : Apart order
  pub member : IsOneOf item order
  pub after : after item order ≡ later
