-- Worked rows: answers under lengths and bounds of base A, by computation.
use Rattle.std.specs.Prelude.{◌≡◌, ℕ, ℤ, pos, None, Some, List, [], ◌∷◌, refl}
use Rattle.hu_kind.specs.Order.{entry_cmp}
use Rattle.hu_kind.specs.Worked.{base_a, entry_of}
use Rattle.hu_totals.specs.Ranked.{ranked}
use Rattle.hu_lengths.specs.Lengths.{sized_answer}
use Rattle.hu_lengths.specs.Bound.{sized_bound}

-- the itemsets of two and three items of base A at 30
pub two_to_three : sized_answer base_a (pos 30) None 2 3 ≡
    entry_of (2 ∷ 3 ∷ 5 ∷ []) 37 3
    ∷ entry_of (2 ∷ 4 ∷ 5 ∷ []) 36 2
    ∷ entry_of (2 ∷ 3 ∷ 4 ∷ []) 34 2
    ∷ entry_of (1 ∷ 3 ∷ 5 ∷ []) 31 2
    ∷ entry_of (2 ∷ 5 ∷ []) 31 3
    ∷ entry_of (2 ∷ 4 ∷ []) 30 2
    ∷ []
unfolding entry_cmp
two_to_three = refl

-- the first two single items
pub first_two_items : sized_answer base_a (pos 1) (Some 2) 1 1
    ≡ entry_of (2 ∷ []) 22 3 ∷ entry_of (1 ∷ []) 20 3 ∷ []
unfolding entry_cmp
first_two_items = refl

-- the bound of a set of ranks at 30; the ranks 0 to 6 are those of the items 6, 7, 4, 2, 1, 5, 3
abbrev pub base_a_bound : List ℕ → ℕ → ℤ
base_a_bound set room = sized_bound (ranked (pos 30) base_a).records set room

-- item 6 with one more: the first later value is 6, the greatest 10
pub item_6_and_one : base_a_bound (0 ∷ []) 1 ≡ pos 15
item_6_and_one = refl

pub item_4_alone : base_a_bound (2 ∷ []) 0 ≡ pos 14
item_4_alone = refl

pub item_4_and_one : base_a_bound (2 ∷ []) 1 ≡ pos 37
item_4_and_one = refl

pub item_4_and_two : base_a_bound (2 ∷ []) 2 ≡ pos 46
item_4_and_two = refl

pub item_4_and_four : base_a_bound (2 ∷ []) 4 ≡ pos 53
item_4_and_four = refl
