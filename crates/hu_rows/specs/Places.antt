-- Lists of places, as they are filled.
use Rattle.std.specs.Prelude.{ℕ, ◌+◌, ◌==◌, ◌&&◌, Bool, ℤ, List, [], ◌∷◌, ◌++◌, if◌then◌else◌}
use Rattle.hu_rows.specs.declared.places.Place.{Place}

-- the places of a rank among a row's cells from a place on, but for the last one, where the rank is open
abbrev pub places_from : (ℕ → Bool) → ℕ → ℕ → List (ℕ × ℤ) → ℕ → List Place
places_from p row i [] z = []
places_from p row i (cell ∷ []) z = []
places_from p row i (cell ∷ next ∷ cells) z =
    (if p cell.0 && (z == cell.0) then (record { row = row; cell = i }) ∷ [] else [])
    ++ places_from p row (i + 1) (next ∷ cells) z

-- the places of a rank in a row
abbrev pub places_in : (ℕ → Bool) → ℕ → List (ℕ × ℤ) → ℕ → List Place
places_in p row cells z = places_from p row 0 cells z
