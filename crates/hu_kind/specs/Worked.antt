-- Worked rows: small databases with their answers, by computation.
use Rattle.std.specs.Prelude.{◌≡◌, ℕ, ℤ, pos, negsuc, None, Some, List, [], ◌∷◌, map, refl}
use Rattle.hu_kind.specs.declared.entry.Entry.{Entry}
use Rattle.hu_kind.specs.Order.{entry_cmp}
use Rattle.hu_kind.specs.Sequence.{best_utility, sequence_key}
use Rattle.hu_kind.specs.Answer.{item_answer, closed_answer, sequence_answer}

-- the entry of an itemset
abbrev pub entry_of : List ℕ → ℕ → ℕ → Entry
entry_of items earned records = record { key = map pos items; utility = pos earned; support = records }

-- the entry of a sequence
abbrev pub sequence_entry_of : List (List ℕ) → ℕ → ℕ → Entry
sequence_entry_of pattern earned records =
    record { key = sequence_key pattern; utility = pos earned; support = records }

-- base A: five transactions over seven items
abbrev pub base_a : List (List (ℕ × ℤ))
base_a =
    ((1, pos 5) ∷ (2, pos 10) ∷ (3, pos 1) ∷ (4, pos 6) ∷ (5, pos 3) ∷ (6, pos 5) ∷ [])
    ∷ ((2, pos 8) ∷ (3, pos 3) ∷ (4, pos 6) ∷ (5, pos 3) ∷ [])
    ∷ ((1, pos 5) ∷ (3, pos 1) ∷ (4, pos 2) ∷ [])
    ∷ ((1, pos 10) ∷ (3, pos 6) ∷ (5, pos 6) ∷ (7, pos 5) ∷ [])
    ∷ ((2, pos 4) ∷ (3, pos 2) ∷ (5, pos 3) ∷ (7, pos 2) ∷ [])
    ∷ []

-- base A at 30: a superset earns more than its part, and there are two ties
pub items_at_30 : item_answer base_a (pos 30) None ≡
    entry_of (2 ∷ 3 ∷ 4 ∷ 5 ∷ []) 40 2
    ∷ entry_of (2 ∷ 3 ∷ 5 ∷ []) 37 3
    ∷ entry_of (2 ∷ 4 ∷ 5 ∷ []) 36 2
    ∷ entry_of (2 ∷ 3 ∷ 4 ∷ []) 34 2
    ∷ entry_of (1 ∷ 3 ∷ 5 ∷ []) 31 2
    ∷ entry_of (2 ∷ 5 ∷ []) 31 3
    ∷ entry_of (1 ∷ 2 ∷ 3 ∷ 4 ∷ 5 ∷ 6 ∷ []) 30 1
    ∷ entry_of (2 ∷ 4 ∷ []) 30 2
    ∷ []
unfolding entry_cmp
items_at_30 = refl

-- closed patterns of base A at 30
pub closed_at_30 : closed_answer base_a (pos 30) None ≡
    entry_of (2 ∷ 3 ∷ 4 ∷ 5 ∷ []) 40 2
    ∷ entry_of (2 ∷ 3 ∷ 5 ∷ []) 37 3
    ∷ entry_of (1 ∷ 3 ∷ 5 ∷ []) 31 2
    ∷ entry_of (1 ∷ 2 ∷ 3 ∷ 4 ∷ 5 ∷ 6 ∷ []) 30 1
    ∷ []
unfolding entry_cmp
closed_at_30 = refl

-- a tie at the cut: of two patterns that earn 31 the one with the smaller key stays
pub tie_at_the_cut : item_answer base_a (pos 1) (Some 5) ≡
    entry_of (2 ∷ 3 ∷ 4 ∷ 5 ∷ []) 40 2
    ∷ entry_of (2 ∷ 3 ∷ 5 ∷ []) 37 3
    ∷ entry_of (2 ∷ 4 ∷ 5 ∷ []) 36 2
    ∷ entry_of (2 ∷ 3 ∷ 4 ∷ []) 34 2
    ∷ entry_of (1 ∷ 3 ∷ 5 ∷ []) 31 2
    ∷ []
unfolding entry_cmp
tie_at_the_cut = refl

-- an item of utility 0 makes a second pattern
pub item_of_utility_0 : item_answer (((1, pos 5) ∷ (2, pos 0) ∷ []) ∷ []) (pos 5) None ≡
    entry_of (1 ∷ []) 5 1 ∷ entry_of (1 ∷ 2 ∷ []) 5 1 ∷ []
unfolding entry_cmp
item_of_utility_0 = refl

-- signed records: an item earns in one record and costs in another
pub signed_at_10 : item_answer
    (((1, negsuc 9) ∷ (2, pos 3) ∷ []) ∷ ((1, pos 4) ∷ (2, pos 1) ∷ (3, pos 6) ∷ [])
    ∷ ((2, pos 2) ∷ (3, pos 3) ∷ []) ∷ [])
    (pos 10)
    None ≡
    entry_of (2 ∷ 3 ∷ []) 12 2 ∷ entry_of (1 ∷ 2 ∷ 3 ∷ []) 11 1 ∷ entry_of (1 ∷ 3 ∷ []) 10 1 ∷ []
unfolding entry_cmp
signed_at_10 = refl

-- the record `1[2] -1 1[5] -1 2[3] -1`
abbrev pub later_is_greatest : List (List (ℕ × ℤ))
later_is_greatest = ((1, pos 2) ∷ []) ∷ ((1, pos 5) ∷ []) ∷ ((2, pos 3) ∷ []) ∷ []

-- a later occurrence is greatest: `1 -1 2 -1` earns 8 and not 5
pub best_of_two : best_utility ((1 ∷ []) ∷ (2 ∷ []) ∷ []) later_is_greatest ≡ Some (pos 8)
best_of_two = refl

-- its sequences that reach 7
pub sequences_at_7 : sequence_answer (later_is_greatest ∷ []) (pos 7) None ≡
    sequence_entry_of ((1 ∷ []) ∷ (1 ∷ []) ∷ (2 ∷ []) ∷ []) 10 1
    ∷ sequence_entry_of ((1 ∷ []) ∷ (2 ∷ []) ∷ []) 8 1
    ∷ sequence_entry_of ((1 ∷ []) ∷ (1 ∷ []) ∷ []) 7 1
    ∷ []
unfolding entry_cmp
sequences_at_7 = refl
