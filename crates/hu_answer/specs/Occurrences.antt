-- Occurrences of a sequence in a record: choices of elements, strictly ascending, that hold its itemsets in turn.
use Rattle.std.specs.Prelude.{ℕ, nat_lt, ℤ, pos, ◌+ℤ◌, Bool, true, false, ◌&&◌, List, [], ◌∷◌, length, get_or}
use Rattle.std.specs.List.{list_all}
use Rattle.hu_kind.specs.Record.{holds, values_of}

-- whether numbers ascend strictly
abbrev pub is_ascending : List ℕ → Bool
is_ascending [] = true
is_ascending (k ∷ ks) = list_all (λ j. nat_lt k j) ks && is_ascending ks

-- whether there is a place for each itemset, and the element there holds it
abbrev pub are_held_at : List (List ℕ) → List (List (ℕ × ℤ)) → List ℕ → Bool
are_held_at [] elements [] = true
are_held_at [] elements (k ∷ ks) = false
are_held_at (p ∷ ps) elements [] = false
are_held_at (p ∷ ps) elements (k ∷ ks) =
    (nat_lt k (length elements) && holds p (get_or elements k [])) && are_held_at ps elements ks

-- whether a sequence occurs at places of a record
abbrev pub is_occurrence : List (List ℕ) → List (List (ℕ × ℤ)) → List ℕ → Bool
is_occurrence pattern elements places = is_ascending places && are_held_at pattern elements places

-- the sum of the values of its items there
abbrev pub earned_at : List (List ℕ) → List (List (ℕ × ℤ)) → List ℕ → ℤ
earned_at [] elements places = pos 0
earned_at (p ∷ ps) elements [] = pos 0
earned_at (p ∷ ps) elements (k ∷ ks) = values_of p (get_or elements k []) +ℤ earned_at ps elements ks
