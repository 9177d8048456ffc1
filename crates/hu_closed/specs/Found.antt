-- What stands at places: the items of some records, in an order, and what they say of a key.
use Rattle.std.specs.Prelude.{◌≡◌, ℕ, ℤ, pos, Bool, true, not, ◌&&◌, ◌||◌, List, map}
use Rattle.std.specs.List.{Contains, filter, list_all}
use Rattle.hu_kind.specs.Record.{items_in}
use Rattle.hu_kind.specs.Order.{Ascend}
use Rattle.hu_closed.specs.Keys.{are_among, is_among, is_outside}

-- whether an item stands in each of these records that hold a key
abbrev pub stands_in : List (List ℕ) → List ℤ → ℕ → Bool
stands_in found key item = list_all (λ items. not (are_among items key) || is_among items (pos item)) found

-- whether an item is outside a key and stands in each of these records that hold it
abbrev pub closes_at : List (List ℕ) → List ℤ → ℕ → Bool
closes_at found key item = is_outside key item && stands_in found key item

-- the items of a record found that holds a key
pub record IsHolding (found : List (List ℕ)) (key : List ℤ) (items : List ℕ) : Type 0 where
  pub ascending : Ascend items
  pub at : Contains found items
  pub whole : are_among items key ≡ true

-- of records found, those from one on that holds a key, where none before it does; and the items of that one
pub record IsHeld (found : List (List ℕ)) (key : List ℤ) (rest : List (List ℕ)) (items : List ℕ) : Type 0 where
  pub holding : IsHolding rest key items
  pub part : Contains found items
  pub stands : (item : ℕ) → stands_in rest key item ≡ stands_in found key item

-- the records found for a key: those that hold one of its numbers
pub record Finds (records : List (List (ℕ × ℤ))) (key : List ℤ) (found : List (List ℕ)) : Type 0 where
  pub number : ℤ
  pub part : Contains key number
  pub is : found ≡ filter (λ items. is_among items number) (map items_in records)
