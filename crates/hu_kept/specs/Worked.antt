-- Worked rows: base A appended in two batches, and a value below 0, by computation.
use Rattle.std.specs.Prelude.{◌≡◌, pos, negsuc, None, Some, false, [], ◌∷◌, take, drop, refl}
use Rattle.hu_kind.specs.Order.{entry_cmp}
use Rattle.hu_kind.specs.Worked.{base_a, entry_of}
use Rattle.hu_kept.specs.Kept.{Keeping, answer_of, fresh, with_batch}
use Rattle.hu_kept.specs.Changes.{changes}

-- the first three records of base A, kept at 30, and all five
abbrev three : Keeping
three = with_batch (fresh (pos 30) None false) (take 3 base_a)

abbrev five : Keeping
five = with_batch three (drop 3 base_a)

pub three_answer : answer_of three ≡
    entry_of (2 ∷ 3 ∷ 4 ∷ 5 ∷ []) 40 2
    ∷ entry_of (2 ∷ 4 ∷ 5 ∷ []) 36 2
    ∷ entry_of (2 ∷ 3 ∷ 4 ∷ []) 34 2
    ∷ entry_of (1 ∷ 2 ∷ 3 ∷ 4 ∷ 5 ∷ 6 ∷ []) 30 1
    ∷ entry_of (2 ∷ 4 ∷ []) 30 2
    ∷ []
unfolding entry_cmp
three_answer = refl

pub three_more : changes (answer_of three) (answer_of five) ≡ record { added = 3; changed = 0; dropped = 0 }
unfolding entry_cmp
three_more = refl

-- the first two of them at 1
abbrev top_three : Keeping
top_three = with_batch (fresh (pos 1) (Some 2) false) (take 3 base_a)

pub one_for_one : changes (answer_of top_three) (answer_of (with_batch top_three (drop 3 base_a)))
    ≡ record { added = 1; changed = 0; dropped = 1 }
unfolding entry_cmp
one_for_one = refl

pub pair_enters : answer_of (with_batch top_three (drop 3 base_a))
    ≡ entry_of (2 ∷ 3 ∷ 4 ∷ 5 ∷ []) 40 2 ∷ entry_of (2 ∷ 3 ∷ 5 ∷ []) 37 3 ∷ []
unfolding entry_cmp
pair_enters = refl

-- the first one, where its utility falls
abbrev first : Keeping
first = with_batch (fresh (pos 1) (Some 1) false) (((1, pos 5) ∷ []) ∷ ((2, pos 4) ∷ []) ∷ [])

pub lost : answer_of (with_batch first (((1, negsuc 2) ∷ []) ∷ [])) ≡ entry_of (2 ∷ []) 4 1 ∷ []
unfolding entry_cmp
lost = refl

pub lost_for_other : changes (answer_of first)
    (answer_of (with_batch first (((1, negsuc 2) ∷ []) ∷ [])))
    ≡ record { added = 1; changed = 0; dropped = 1 }
unfolding entry_cmp
lost_for_other = refl
