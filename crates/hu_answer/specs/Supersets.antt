-- Supersets of a set of items, and closed sets in terms of them.
use Rattle.std.specs.Prelude.{◌≡◌, ◌≢◌, ℕ, ◌==◌, ℤ, Bool, true, not, ◌&&◌, List}
use Rattle.std.specs.List.{list_all, list_any}
use Rattle.hu_kind.specs.Database.{support}

-- whether an item is one of a set
abbrev pub is_item_of : ℕ → List ℕ → Bool
is_item_of item items = list_any (λ i. item == i) items

-- whether a set has all items of another, and one more
abbrev pub is_proper_superset : List ℕ → List ℕ → Bool
is_proper_superset larger items =
    list_all (λ i. is_item_of i larger) items && list_any (λ i. not (is_item_of i items)) larger

-- a set is closed: no proper superset has the same support
abbrev pub IsClosedSet : List (List (ℕ × ℤ)) → List ℕ → Type 0
IsClosedSet records items = (larger : List ℕ) → is_proper_superset larger items ≡ true
    → support records larger ≢ support records items
