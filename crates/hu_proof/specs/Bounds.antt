-- What a prefix may earn with items that stand later in an order of all items. After HUI-Miner (Liu and Qu, 2012).
use Rattle.std.specs.Prelude.{ℕ, ◌==◌, ℤ, pos, ◌+ℤ◌, Bool, List, [], ◌∷◌, ◌++◌, if◌then◌else◌}
use Rattle.std.specs.List.{list_any}
use Rattle.hu_kind.specs.Record.{holds, values_of, positive_part}

-- whether an item is one of these
abbrev pub is_among : ℕ → List ℕ → Bool
is_among item items = list_any (λ i. item == i) items

-- what stands after an item in an order
abbrev pub after : ℕ → List ℕ → List ℕ
after item [] = []
after item (i ∷ is) = if item == i then is else after item is

-- the sum of a record's values above 0 of the later items
abbrev pub later_gain : List ℕ → List (ℕ × ℤ) → ℤ
later_gain later [] = pos 0
later_gain later (cell ∷ cells) =
    (if is_among cell.0 later then positive_part cell.1 else pos 0) +ℤ later_gain later cells

-- the most that a prefix may earn in a record with later items, 0 where the record doesn't hold it
abbrev pub bound_in : List ℕ → List ℕ → List (ℕ × ℤ) → ℤ
bound_in prefix later cells =
    if holds prefix cells then positive_part (values_of prefix cells +ℤ later_gain later cells) else
    pos 0

-- the sum of that over all records
abbrev pub cut_bound : List (List (ℕ × ℤ)) → List ℕ → List ℕ → ℤ
cut_bound [] prefix later = pos 0
cut_bound (r ∷ rs) prefix later = bound_in prefix later r +ℤ cut_bound rs prefix later

-- whether an item stands with a prefix in some record
abbrev pub stands_with : List (List (ℕ × ℤ)) → List ℕ → ℕ → Bool
stands_with records prefix item = list_any (holds (prefix ++ item ∷ [])) records
