-- Worked rows: the chains of small sequences, by computation.
use Rattle.std.specs.Prelude.{◌≡◌, ℕ, ℤ, pos, None, Some, List, [], ◌∷◌, refl}
use Rattle.hu_kind.specs.Worked.{later_is_greatest}
use Rattle.hu_chain.specs.declared.place.Place.{Place}
use Rattle.hu_chain.specs.declared.chain.Growth.TheVariants.{IntoLast, AfterLast}
use Rattle.hu_chain.specs.Pattern.{into, after}
use Rattle.hu_chain.specs.Grown.{grown}
use Rattle.hu_chain.specs.Place.{best_at, chain_of, rest_at}
use Rattle.hu_chain.specs.Bound.{best_of, extension_bound, reduced_bound}

-- a place, by its numbers
abbrev pub place_of : ℕ → ℕ → ℕ → ℕ → Place
place_of element cell best rest = record { element = element; cell = cell; best = pos best; rest = pos rest }

-- the pattern `1 -1`
abbrev pub one : List (List ℕ)
one = (1 ∷ []) ∷ []

-- the sequence `1[9] -1 2[1] -1 1[2] -1 3[8] -1`
abbrev pub several_places : List (List (ℕ × ℤ))
several_places = ((1, pos 9) ∷ []) ∷ ((2, pos 1) ∷ []) ∷ ((1, pos 2) ∷ []) ∷ ((3, pos 8) ∷ []) ∷ []

-- `1 -1` ends in two elements of it: its best utility in the third, and what is left after it
pub best_in_third : best_at one several_places 2 ≡ Some (pos 2)
best_in_third = refl

pub rest_in_third : rest_at several_places 2 0 ≡ pos 8
rest_in_third = refl

pub best_in_second : best_at one several_places 1 ≡ None
best_in_second = refl

pub chain_of_one : chain_of one several_places ≡ place_of 0 0 9 11 ∷ place_of 2 0 2 8 ∷ []
chain_of_one = refl

pub best_of_one : best_of (chain_of one several_places) ≡ Some (pos 9)
best_of_one = refl

pub bound_of_one : extension_bound (chain_of one several_places) ≡ pos 20
bound_of_one = refl

-- grown by 1 in a new itemset
pub chain_of_one_and_one : chain_of (after one 1) several_places ≡ place_of 2 0 11 8 ∷ []
chain_of_one_and_one = refl

pub bound_of_one_and_one : extension_bound (chain_of (after one 1) several_places) ≡ pos 19
bound_of_one_and_one = refl

-- grown by 3 in a new itemset, and the reduced bounds of this growth and of that by 9
pub chain_of_one_and_three : chain_of (after one 3) several_places ≡ place_of 3 0 17 0 ∷ []
chain_of_one_and_three = refl

pub reduced_by_three : reduced_bound (chain_of one several_places) (after one 3) several_places ≡ pos 20
reduced_by_three = refl

pub reduced_by_nine : reduced_bound (chain_of one several_places) (after one 9) several_places ≡ pos 0
reduced_by_nine = refl

-- the sequence `1[1] 4[12] -1 3[20] -1 2[4] -1 5[1] 7[2] -1`
abbrev pub whole_record : List (List (ℕ × ℤ))
whole_record =
    ((1, pos 1) ∷ (4, pos 12) ∷ []) ∷ ((3, pos 20) ∷ []) ∷ ((2, pos 4) ∷ [])
    ∷ ((5, pos 1) ∷ (7, pos 2) ∷ []) ∷ []

-- `1 -1` in it, and with 4 in its last itemset
pub chain_of_first : chain_of one whole_record ≡ place_of 0 0 1 39 ∷ []
chain_of_first = refl

pub chain_of_joined : chain_of (into one 4) whole_record ≡ place_of 0 1 13 27 ∷ []
chain_of_joined = refl

-- the occurrence of greatest utility isn't the first: `1 -1 2 -1` in `1[2] -1 1[5] -1 2[3] -1`
pub later_place : chain_of (after one 2) later_is_greatest ≡ place_of 2 0 8 0 ∷ []
later_place = refl

-- `1 -1` grows into `1 4 -1 2 -1`
pub grown_twice : grown AfterLast (grown IntoLast one 4) 2 ≡ (1 ∷ 4 ∷ []) ∷ (2 ∷ []) ∷ []
grown_twice = refl
