-- Worked rows: entries offered in turn, and keys by ranks, by computation.
use Rattle.std.specs.Prelude.{◌≡◌, pos, negsuc, true, false, None, Some, List, [], ◌∷◌, refl}
use Rattle.hu_kind.specs.declared.entry.Entry.{Entry}
use Rattle.hu_kind.specs.Order.{entry_cmp}
use Rattle.hu_kind.specs.Worked.{entry_of}
use Rattle.hu_collect.specs.Rule.{rule_of, made, floor_of}
use Rattle.hu_collect.specs.Ranks.{key_of, is_part}

-- seven offers, of which one comes twice
abbrev pub offers : List Entry
offers =
    entry_of (1 ∷ []) 5 1
    ∷ entry_of (2 ∷ []) 7 1
    ∷ entry_of (3 ∷ []) 5 1
    ∷ entry_of (1 ∷ 2 ∷ []) 5 1
    ∷ entry_of (0 ∷ []) 5 1
    ∷ entry_of (0 ∷ []) 5 1
    ∷ entry_of (4 ∷ []) 4 1
    ∷ []

-- the first two of them: the tie at the second place goes to the smallest key
pub first_two_of_offers : made (rule_of (pos 1) (Some 2)) [] offers
    ≡ entry_of (2 ∷ []) 7 1 ∷ entry_of (0 ∷ []) 5 1 ∷ []
unfolding entry_cmp
first_two_of_offers = refl

-- all of them from 5 on
pub all_offers_from_5 : made (rule_of (pos 5) None) [] offers ≡
    entry_of (2 ∷ []) 7 1
    ∷ entry_of (0 ∷ []) 5 1
    ∷ entry_of (1 ∷ []) 5 1
    ∷ entry_of (1 ∷ 2 ∷ []) 5 1
    ∷ entry_of (3 ∷ []) 5 1
    ∷ []
unfolding entry_cmp
all_offers_from_5 = refl

-- the floor of two is the start until there are two
pub floor_of_one : floor_of (rule_of (pos 1) (Some 2)) (entry_of (1 ∷ []) 5 1 ∷ []) ≡ pos 1
floor_of_one = refl

pub floor_of_two : floor_of (rule_of (pos 1) (Some 2))
    (entry_of (2 ∷ []) 7 1 ∷ entry_of (1 ∷ []) 5 1 ∷ []) ≡ pos 5
floor_of_two = refl

-- ranks 0 and 2 of the items 7, 4 and 5
pub key_of_ranks : key_of (7 ∷ 4 ∷ 5 ∷ []) (0 ∷ 2 ∷ []) ≡ pos 5 ∷ pos 7 ∷ []
key_of_ranks = refl

-- the sequence of 1 and then 2 is part of that of 1 with 3 and then 2, and not of that of 2 and then 1
pub part_of_grown : is_part (pos 1 ∷ negsuc 0 ∷ pos 2 ∷ negsuc 0 ∷ [])
    (pos 1 ∷ pos 3 ∷ negsuc 0 ∷ pos 2 ∷ negsuc 0 ∷ []) ≡ true
part_of_grown = refl

pub no_part_of_other : is_part (pos 1 ∷ negsuc 0 ∷ pos 2 ∷ negsuc 0 ∷ [])
    (pos 2 ∷ negsuc 0 ∷ pos 1 ∷ negsuc 0 ∷ []) ≡ false
no_part_of_other = refl
