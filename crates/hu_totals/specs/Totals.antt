-- What the records of a database say of each of its items, in the order in which the items are first seen: what it earns, its
-- values above 0, in how many records it stands, and what these records gain (its transaction-weighted utility: Two-Phase,
-- Liu, Liao and Choudhary, 2005).
use Rattle.std.specs.Prelude.{ℕ, ◌==◌, not, ℤ, pos, ◌+ℤ◌, List, [], ◌∷◌, map, filter}
use Rattle.std.specs.List.{flat_map}
use Rattle.hu_kind.specs.declared.item.Item.{Item}
use Rattle.hu_kind.specs.Record.{items_in, value_of, positive_part}
use Rattle.hu_kind.specs.Database.{utility, support, twu}
use Rattle.hu_totals.specs.declared.totals.ItemTotal.{ItemTotal}

-- the sum of an item's values above 0
abbrev pub positive : List (List (ℕ × ℤ)) → ℕ → ℤ
positive [] item = pos 0
positive (r ∷ rs) item = positive_part (value_of item r) +ℤ positive rs item

-- the numbers of a list, each where it stands first
abbrev pub first_seen : List ℕ → List ℕ
first_seen [] = []
first_seen (x ∷ xs) = x ∷ filter (λ y. not (y == x)) (first_seen xs)

-- what the records say of an item
abbrev pub total_of : List (List (ℕ × ℤ)) → ℕ → ItemTotal
total_of records item = record {
  utility = utility records (item ∷ []);
  positive = positive records item;
  support = support records (item ∷ []);
  twu = twu records (item ∷ []);
}

-- what they say of each item
abbrev pub item_totals : List (List (ℕ × ℤ)) → List (ℕ × ItemTotal)
item_totals records = map (λ item. (item, total_of records item)) (first_seen (flat_map items_in records))

-- an item's total as a pair
abbrev pub numbered : Item × ItemTotal → ℕ × ItemTotal
numbered entry = (entry.0.0, entry.1)
