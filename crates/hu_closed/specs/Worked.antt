-- Worked rows, by computation: keys of base A, and places.
use Rattle.std.specs.Prelude.{◌≡◌, pos, negsuc, true, false, [], ◌∷◌, refl}
use Rattle.hu_kind.specs.Worked.{base_a}
use Rattle.hu_closed.specs.Keys.{key_support, is_closed_key, closes_below}
use Rattle.hu_closed.specs.Places.{places_at, with_place}

pub support_of_2_3 : key_support base_a (pos 2 ∷ pos 3 ∷ []) ≡ 3
support_of_2_3 = refl

-- item 5 stands in every record that holds 2 and 3
pub open_2_3 : is_closed_key base_a (pos 2 ∷ pos 3 ∷ []) ≡ false
open_2_3 = refl

pub support_of_2_3_5 : key_support base_a (pos 2 ∷ pos 3 ∷ pos 5 ∷ []) ≡ 3
support_of_2_3_5 = refl

pub closed_2_3_5 : is_closed_key base_a (pos 2 ∷ pos 3 ∷ pos 5 ∷ []) ≡ true
closed_2_3_5 = refl

pub support_of_3 : key_support base_a (pos 3 ∷ []) ≡ 5
support_of_3 = refl

pub closed_3 : is_closed_key base_a (pos 3 ∷ []) ≡ true
closed_3 = refl

-- item 3, which stands before 5, is outside
pub open_2_5 : is_closed_key base_a (pos 2 ∷ pos 5 ∷ []) ≡ false
open_2_5 = refl

pub support_of_1_to_5 : key_support base_a (pos 1 ∷ pos 2 ∷ pos 3 ∷ pos 4 ∷ pos 5 ∷ []) ≡ 1
support_of_1_to_5 = refl

pub open_1_to_5 : is_closed_key base_a (pos 1 ∷ pos 2 ∷ pos 3 ∷ pos 4 ∷ pos 5 ∷ []) ≡ false
open_1_to_5 = refl

-- keys that are of no non-empty itemset
pub support_of_none : key_support base_a [] ≡ 5
support_of_none = refl

pub open_none : is_closed_key base_a [] ≡ false
open_none = refl

pub support_of_negative : key_support base_a (negsuc 2 ∷ []) ≡ 0
support_of_negative = refl

pub open_negative : is_closed_key base_a (negsuc 2 ∷ []) ≡ false
open_negative = refl

pub open_falling : is_closed_key base_a (pos 5 ∷ pos 3 ∷ pos 2 ∷ []) ≡ false
open_falling = refl

-- with the ranks of floor 30, item 5 of rank 5 closes the key `2 3` below the rank 6, and none the key `2` below 3
pub shut_2_3 : closes_below base_a (6 ∷ 7 ∷ 4 ∷ 2 ∷ 1 ∷ 5 ∷ 3 ∷ []) (pos 2 ∷ pos 3 ∷ []) 6 ≡ true
shut_2_3 = refl

pub not_shut_2 : closes_below base_a (6 ∷ 7 ∷ 4 ∷ 2 ∷ 1 ∷ 5 ∷ 3 ∷ []) (pos 2 ∷ []) 3 ≡ false
not_shut_2 = refl

-- the record at place 2 holds 5, as that at place 0 does, and 7, which is new
pub more_of_5 : with_place ((pos 2, 0 ∷ []) ∷ (pos 5, 0 ∷ []) ∷ []) (pos 5) 2
    ≡ (pos 2, 0 ∷ []) ∷ (pos 5, 0 ∷ 2 ∷ []) ∷ []
more_of_5 = refl

pub first_of_7 : with_place ((pos 5, 0 ∷ 2 ∷ []) ∷ []) (pos 7) 2
    ≡ (pos 5, 0 ∷ 2 ∷ []) ∷ (pos 7, 2 ∷ []) ∷ []
first_of_7 = refl

pub places_of_5 : places_at ((pos 5, 0 ∷ 2 ∷ []) ∷ (pos 7, 2 ∷ []) ∷ []) (pos 5) ≡ 0 ∷ 2 ∷ []
places_of_5 = refl

pub places_of_6 : places_at ((pos 5, 0 ∷ 2 ∷ []) ∷ (pos 7, 2 ∷ []) ∷ []) (pos 6) ≡ []
places_of_6 = refl
