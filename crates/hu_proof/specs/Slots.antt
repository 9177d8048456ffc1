-- The values of a record at named items, each with its slot, and what a prefix may earn there with each of these.
use Rattle.std.specs.Prelude.{◌≡◌, ℕ, ◌+◌, ◌==◌, true, nat_eq, ℤ, pos, ◌+ℤ◌, unsigned_abs, Option, None, Some, List, [], ◌∷◌, ◌++◌, position, slice_index_or, if◌then◌else◌}
use Rattle.std.specs.List.{sum_by, AllByRecursion}
use Rattle.hu_kind.specs.Record.{positive_part, has}
use Rattle.hu_proof.specs.declared.slots.Slotted.{Slotted}
use Rattle.hu_proof.specs.Bounds.{after}
use Rattle.hu_proof.specs.Places.{PlaceOf, share, shares, IsOneOf}

-- a value where it is above 0, else 0, as a number
abbrev pub part : ℤ → ℕ
part value = unsigned_abs (positive_part value)

-- a value with its slot, where its item has one
abbrev pub slotted_one : Option ℕ → ℤ → List Slotted
slotted_one None value = []
slotted_one (Some slot) value = record { slot = slot; value = value } ∷ []

-- the values of a record at named items: an item's slot is how many stand before it among the named ones
abbrev pub slotted : List ℕ → List (ℕ × ℤ) → List Slotted
slotted named [] = []
slotted named (cell ∷ cells) = slotted_one (position (nat_eq cell.0) named) cell.1 ++ slotted named cells

-- the sum of the values above 0
abbrev pub gain_in : List Slotted → ℕ
gain_in values = sum_by (λ one. part one.value) values

-- the sum of the absolute values
abbrev pub size_in : List Slotted → ℕ
size_in values = sum_by (λ one. unsigned_abs one.value) values

-- what values add to the bound of a slot, where a value gains those after it
abbrev pub gained : ℤ → ℕ → List Slotted → ℕ
gained own slot [] = 0
gained own slot (one ∷ values) =
    (if slot == one.slot then part ((own +ℤ one.value) +ℤ pos (gain_in values)) else 0)
    + gained own slot values

-- what a list has at a slot
abbrev pub bound_at : List ℤ → ℕ → ℤ
bound_at bounds slot = slice_index_or bounds slot (pos 0)

-- the named item of a slot
abbrev pub named_at : List ℕ → ℕ → ℕ
named_at named slot = slice_index_or named slot 0

-- what a prefix may earn in a place, and in all places, with the named item of a slot and with later named ones
abbrev pub share_at : List ℕ → PlaceOf → ℕ → ℤ
share_at named place slot = share (named_at named slot) (after (named_at named slot) named) place

abbrev pub shares_at : List ℕ → List PlaceOf → ℕ → ℤ
shares_at named places slot =
    shares (named_at named slot) (after (named_at named slot) named) places

-- each later item that stands in a place is named
abbrev pub NamesAll : List ℕ → List ℕ → List PlaceOf → Type 0
NamesAll later named places = AllByRecursion (λ place. (item : ℕ) → IsOneOf item later
    → has item place.0 ≡ true → IsOneOf item named) places
