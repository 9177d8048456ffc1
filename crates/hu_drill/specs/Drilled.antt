-- Generated databases: records, or sequences, as a seed tells them.
use Rattle.std.specs.Prelude.{ℕ, ◌+◌, ◌*◌, ◌%◌, ℤ, pos, List, [], ◌∷◌, map}
use Rattle.std.specs.List.{range_with_len}
use Rattle.hu_drill.specs.Draws.{after_draws}

-- the value that a draw tells: from 1 to 100
abbrev pub value_from : ℕ → ℤ
value_from draw = pos (1 + draw % 100)

-- the cell of a record's place, which two draws tell: the items of a place are seven that no other place has
abbrev pub cell_at : ℕ → ℕ → ℕ × ℤ
cell_at place state = (7 * place + 1 + after_draws 1 state % 7, value_from (after_draws 2 state))

-- the cells of a record, two draws for each
abbrev pub cells_of : ℕ → ℕ → List (ℕ × ℤ)
cells_of items state = map (λ place. cell_at place (after_draws (2 * place) state)) (range_with_len 0 items)

-- records with so many items each
abbrev pub drilled : ℕ → ℕ → ℕ → List (List (ℕ × ℤ))
drilled seed records items =
    map (λ n. cells_of items (after_draws (2 * items * n) seed)) (range_with_len 0 records)

-- an element, which four draws tell: an item from 1 to 25, and one from 26 to 50
abbrev pub element_from : ℕ → List (ℕ × ℤ)
element_from state =
    (1 + after_draws 1 state % 25, value_from (after_draws 2 state))
    ∷ (26 + after_draws 3 state % 25, value_from (after_draws 4 state))
    ∷ []

-- the elements of a sequence, four draws for each
abbrev pub elements_of : ℕ → ℕ → List (List (ℕ × ℤ))
elements_of elements state = map (λ n. element_from (after_draws (4 * n) state)) (range_with_len 0 elements)

-- sequences with so many elements each
abbrev pub drilled_sequences : ℕ → ℕ → ℕ → List (List (List (ℕ × ℤ)))
drilled_sequences seed records elements =
    map (λ n. elements_of elements (after_draws (4 * elements * n) seed)) (range_with_len 0 records)
