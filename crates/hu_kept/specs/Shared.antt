-- What records share with a batch: their cells with items that a record of the batch holds. A set that the batch touches has
-- such items alone, and so has all that can close it, so these cells tell all of it.
use Rattle.std.specs.Prelude.{ℕ, ℤ, Bool, List, [], ◌∷◌, slice_index_or}
use Rattle.std.specs.List.{filter, flat_map, list_any}
use Rattle.hu_kind.specs.Record.{has, items_in}
use Rattle.hu_totals.specs.Totals.{first_seen}

-- whether a record of a batch holds an item
abbrev pub occurs_in : List (List (ℕ × ℤ)) → ℕ → Bool
occurs_in batch item = list_any (has item) batch

-- the items of a batch, each once, in the order in which they are first seen
abbrev pub batch_items : List (List (ℕ × ℤ)) → List ℕ
batch_items batch = first_seen (flat_map items_in batch)

-- the cells of a record with items of a batch
abbrev pub shared_cells : List (List (ℕ × ℤ)) → List (ℕ × ℤ) → List (ℕ × ℤ)
shared_cells batch cells = filter (λ cell. occurs_in batch cell.0) cells

-- a record of cells, where there are any
abbrev pub some_of : List (ℕ × ℤ) → List (List (ℕ × ℤ))
some_of [] = []
some_of (cell ∷ cells) = (cell ∷ cells) ∷ []

-- the records with these cells alone, where they have any
abbrev pub shared : List (List (ℕ × ℤ)) → List (List (ℕ × ℤ)) → List (List (ℕ × ℤ))
shared batch records = flat_map (λ cells. some_of (shared_cells batch cells)) records

-- the same of the records at some places
abbrev pub shared_at : List (List (ℕ × ℤ)) → List (List (ℕ × ℤ)) → List ℕ → List (List (ℕ × ℤ))
shared_at batch records places =
    flat_map (λ place. some_of (shared_cells batch (slice_index_or records place []))) places
