-- Which records hold which items: for each item its places.
use Rattle.std.specs.Prelude.{◌≡◌, ℕ, ℤ, pos, true, List, [], ◌++◌, length, slice_index_or}
use Rattle.std.specs.List.{Contains}
use Rattle.std.specs.List.Sorted.{IsStrictlyIncreasing}
use Rattle.hu_kind.specs.Record.{has}
use Rattle.hu_closed.specs.Places.{places_at}
use Rattle.hu_kept.specs.Shared.{occurs_in}

-- every place of a record that holds an item is one of the item's places
abbrev pub ListsAll : List (List (ℕ × ℤ)) → List (ℤ × List ℕ) → Type 0
ListsAll records places = (place item : ℕ) → has item (slice_index_or records place []) ≡ true
    → Contains (places_at places (pos item)) place

-- the places that there were, and a place for each item of a record
pub record IsListed (old : List (ℤ × List ℕ)) (cells : List (ℕ × ℤ)) (place : ℕ)
    (new : List (ℤ × List ℕ)) : Type 0 where
  pub kept : (number : ℤ) (at : ℕ) → Contains (places_at old number) at
      → Contains (places_at new number) at
  pub own : (item : ℕ) → has item cells ≡ true → Contains (places_at new (pos item)) place

-- the first records of some, and the places of their items
pub record AreNoted (records : List (List (ℕ × ℤ))) (count : ℕ)
    (places : List (ℤ × List ℕ)) : Type 0 where
  pub whole : count ≡ length records
  pub all : ListsAll records places

-- records are the first ones of others
abbrev pub IsFront : List (List (ℕ × ℤ)) → List (List (ℕ × ℤ)) → Type 0
IsFront front records = (rest : List (List (ℕ × ℤ))) × (front ++ rest ≡ records)

-- places that rise, among them that of every record that holds an item of a batch
pub record AreHolders (batch records : List (List (ℕ × ℤ))) (places : List ℕ) : Type 0 where
  pub rising : IsStrictlyIncreasing places
  pub whole : (place item : ℕ) → occurs_in batch item ≡ true
      → has item (slice_index_or records place []) ≡ true → Contains places place
