-- The places of numbers: a list of places for each number that has any, in the order in which the numbers came.
use Rattle.std.specs.Prelude.{ℕ, ℤ, List, [], ◌∷◌, ◌++◌, map, unwrap_or}
use Rattle.std.specs.Map.{lookup}
use Rattle.std.specs.Ordering.{int_eq}
use Rattle.std.specs.declared.vec.Vec.{Vec}
use Rattle.std.specs.declared.alloc.Global.{Global}
use Rattle.indexmap.specs.IndexMap.{insert_entry}

-- the lists of a map
abbrev pub lists_in : List (ℤ × Vec ℕ Global) → List (ℤ × List ℕ)
lists_in entries = map (λ entry. (entry.0, entry.1.items)) entries

-- the places of a number, none where it has none
abbrev pub places_at : List (ℤ × List ℕ) → ℤ → List ℕ
places_at lists number = unwrap_or (lookup (int_eq number) lists) []

-- a place more, after those of a number
abbrev pub with_place : List (ℤ × List ℕ) → ℤ → ℕ → List (ℤ × List ℕ)
with_place lists number place =
    insert_entry int_eq lists number (places_at lists number ++ place ∷ [])
