-- Worked rows: answers by average, their texts and bounds, by computation.
use Rattle.std.specs.Prelude.{◌≡◌, ℕ, ℤ, pos, negsuc, None, Some, List, [], ◌∷◌, ◌++◌, codes, refl}
use Rattle.std.specs.Fmt.{digits}
use Rattle.hu_kind.specs.Worked.{base_a, entry_of}
use Rattle.hu_totals.specs.Ranked.{ranked}
use Rattle.hu_average.specs.Order.{average_cmp}
use Rattle.hu_average.specs.Answer.{average_answer}
use Rattle.hu_average.specs.Text.{average_text}
use Rattle.hu_average.specs.Bound.{average_bound}
use Rattle.hu_average.specs.Totals.{total_of, total_with}

-- base A at 14 for each item: 31 over 2 comes before 30 over 2 and 15 over 1, which tie
pub averages_at_14 : average_text (average_answer base_a (pos 14) None) ≡
    codes "2 #UTIL: 22 #LEN: 1\n"
    ++ codes "1 #UTIL: 20 #LEN: 1\n"
    ++ codes "2 5 #UTIL: 31 #LEN: 2\n"
    ++ codes "2 4 #UTIL: 30 #LEN: 2\n"
    ++ codes "5 #UTIL: 15 #LEN: 1\n"
    ++ codes "1 3 #UTIL: 28 #LEN: 2\n"
    ++ codes "2 3 #UTIL: 28 #LEN: 2\n"
    ++ codes "4 #UTIL: 14 #LEN: 1\n"
unfolding digits average_cmp
averages_at_14 = refl

-- the first four
pub first_four_averages : average_answer base_a (pos 1) (Some 4) ≡
    entry_of (2 ∷ []) 22 3 ∷ entry_of (1 ∷ []) 20 3 ∷ entry_of (2 ∷ 5 ∷ []) 31 3 ∷ entry_of
    (2 ∷ 4 ∷ []) 30 2 ∷ []
unfolding average_cmp
first_four_averages = refl

-- signed records
abbrev pub signed : List (List (ℕ × ℤ))
signed =
    ((1, negsuc 9) ∷ (2, pos 3) ∷ [])
    ∷ ((1, pos 4) ∷ (2, pos 1) ∷ (3, pos 6) ∷ [])
    ∷ ((2, pos 2) ∷ (3, pos 3) ∷ [])
    ∷ []

pub signed_averages_at_5 : average_answer signed (pos 5) None ≡
    entry_of (3 ∷ []) 9 2 ∷ entry_of (2 ∷ []) 6 3 ∷ entry_of (2 ∷ 3 ∷ []) 12 2 ∷ entry_of
    (1 ∷ 3 ∷ []) 10 1 ∷ []
unfolding average_cmp
signed_averages_at_5 = refl

-- a value below 0 counts for nothing, and each record that holds the set counts with its greatest value
pub bound_of_signed_1 : average_bound signed (1 ∷ []) ≡ pos 9
bound_of_signed_1 = refl

-- item 4 stands in three records of base A
pub bound_of_item_4 : average_bound base_a (4 ∷ []) ≡ pos 23
bound_of_item_4 = refl

-- the same by ranks: 2 is the rank of item 4 at 30
pub bound_of_rank_2 : average_bound (ranked (pos 30) base_a).records (2 ∷ []) ≡ pos 23
bound_of_rank_2 = refl

-- the total of item 1 there: it earns -10 and 4, in two records whose greatest values are 3 and 6
pub total_of_signed_1 : total_of signed (1 ∷ []) ≡ total_with (negsuc 5) 2 (pos 9)
total_of_signed_1 = refl
