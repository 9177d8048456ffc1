-- Slots of ranks: whether a rank stands in some place of a prefix, and the most that the prefix may earn with it. Lists of
-- ranks: the places of the prefix with the rank.
use Rattle.std.specs.Prelude.{
  ◌≡◌,
  ℕ,
  ℤ,
  pos,
  ◌+ℤ◌,
  int_le,
  true,
  false,
  ◌||◌,
  List,
  [],
  map,
  length,
  replicate,
  slice_index_or,
  if◌then◌else◌,
}
use Rattle.std.specs.declared.vec.Vec.{Vec}
use Rattle.std.specs.declared.alloc.Global.{Global}
use Rattle.hu_kind.specs.Record.{has}
use Rattle.hu_totals.specs.Cells.{among}
use Rattle.hu_certify.specs.declared.place.Place.{Place}
use Rattle.hu_certify.specs.declared.slots.Slot.{Slot}
use Rattle.hu_certify.specs.Spots.{SpotOf, grown, most, narrowed, ranks_in, spots_of}

-- the slot of a rank that stands nowhere
abbrev pub no_slot : Slot
no_slot = record { met = false; bound = pos 0 }

-- what the slot of a rank has
abbrev pub slot_of : List Slot → ℕ → Slot
slot_of slots rank = slice_index_or slots rank no_slot

-- a slot whose rank has been met, with so much more
abbrev pub with_more : Slot → ℤ → Slot
with_more slot more = record { met = true; bound = slot.bound +ℤ more }

-- the slot of a rank with a record more
abbrev pub with_spot : ℕ → SpotOf → Slot → Slot
with_spot rank spot slot =
    record {
      met = slot.met || has rank spot.0;
      bound = slot.bound +ℤ most (grown rank spot);
    }

-- the slot of a rank over all records that hold a prefix
abbrev pub slot_over : List SpotOf → ℕ → Slot
slot_over spots rank = record { met = among rank (ranks_in spots); bound = most (narrowed rank spots) }

-- no rank has been met
abbrev pub AreEmpty : List Slot → Type 0
AreEmpty slots = slots ≡ replicate (length slots) no_slot

-- the ranks that have been met are these
abbrev pub AreMet : List ℕ → List Slot → Type 0
AreMet ranks slots = (z : ℕ) → (slot_of slots z).met ≡ among z ranks

-- lists of places, seen without lives
abbrev pub lists_of : List (Vec Place Global) → List (List SpotOf)
lists_of lists = map (λ list. spots_of list.items) lists

-- what the list of a rank has
abbrev pub list_at : List (Vec Place Global) → ℕ → List SpotOf
list_at lists rank = slice_index_or (lists_of lists) rank []

-- what goes to a rank: nothing where its bound is below a minimum
abbrev pub kept : ℤ → List Slot → ℕ → List SpotOf → List SpotOf
kept least slots rank spots = if int_le least (slot_of slots rank).bound then spots else []

-- the records that hold a prefix and a rank, where the most that the prefix may earn with it reaches a minimum
abbrev pub opened : ℤ → List SpotOf → ℕ → List SpotOf
opened least spots rank =
    if int_le least (most (narrowed rank spots)) then narrowed rank spots else []
