-- Worked rows, by computation.
use Rattle.std.specs.Prelude.{◌≡◌, pos, true, false, T, ◌==◌, [], ◌∷◌, refl}
use Rattle.std.proofs.Common.{subst}
use Rattle.std.proofs.lemmas.Bool.{ltb-true}
use Rattle.hu_kind.specs.Worked.{base_a, entry_of, sequence_entry_of, later_is_greatest}
use Rattle.hu_answer.specs.Entries.{IsEntryOf, IsFoundSet, IsSequenceEntryOf, IsFoundSequence}
use Rattle.hu_answer.specs.Supersets.{IsClosedSet}
use Rattle.hu_answer.specs.Occurrences.{is_occurrence, earned_at}
use Rattle.hu_answer.specs.Supersets.{is_item_of, is_proper_superset}

-- 3 is one of {1, 3}, and 2 isn't
pub one_of_two : is_item_of 3 (1 ∷ 3 ∷ []) ≡ true
one_of_two = refl

pub none_of_two : is_item_of 2 (1 ∷ 3 ∷ []) ≡ false
none_of_two = refl

-- {1, 2, 3} is a proper superset of {1, 3}
pub one_item_more : is_proper_superset (1 ∷ 2 ∷ 3 ∷ []) (1 ∷ 3 ∷ []) ≡ true
one_item_more = refl

-- a set isn't one of itself, and {2, 3, 4} isn't one of {1, 3}
pub no_item_more : is_proper_superset (1 ∷ 3 ∷ []) (1 ∷ 3 ∷ []) ≡ false
no_item_more = refl

pub one_item_less : is_proper_superset (2 ∷ 3 ∷ 4 ∷ []) (1 ∷ 3 ∷ []) ≡ false
one_item_less = refl

-- `1 -1 2 -1` occurs in `1[2] -1 1[5] -1 2[3] -1` at the second element and the third, and earns 8 there
pub at_second_and_third : is_occurrence ((1 ∷ []) ∷ (2 ∷ []) ∷ []) later_is_greatest (1 ∷ 2 ∷ []) ≡ true
at_second_and_third = refl

pub earned_at_second_and_third : earned_at ((1 ∷ []) ∷ (2 ∷ []) ∷ []) later_is_greatest (1 ∷ 2 ∷ []) ≡ pos 8
earned_at_second_and_third = refl

-- not at the third and the second, nor at the first two, nor at one place alone
pub not_backwards : is_occurrence ((2 ∷ []) ∷ (1 ∷ []) ∷ []) later_is_greatest (2 ∷ 1 ∷ []) ≡ false
not_backwards = refl

pub not_where_it_is_not_held : is_occurrence ((1 ∷ []) ∷ (2 ∷ []) ∷ []) later_is_greatest (0 ∷ 1 ∷ []) ≡ false
not_where_it_is_not_held = refl

pub not_at_one_place : is_occurrence ((1 ∷ []) ∷ (2 ∷ []) ∷ []) later_is_greatest (1 ∷ []) ≡ false
not_at_one_place = refl

-- in base A {2, 5} is found at 30 and not at 32
pub found_at_30 : IsFoundSet base_a (pos 30) (2 ∷ 5 ∷ [])
found_at_30 =
    record {
      some = ltb-true 0 2 refl;
      ascending = ((ltb-true 2 5 refl, tt), (tt, tt));
      held =
          ltb-true 0 3 refl;
      earns = record { le = tt };
    }

pub not_found_at_32 : IsFoundSet base_a (pos 32) (2 ∷ 5 ∷ []) → ⊥
not_found_at_32 found = found.earns.le

-- its entry has utility 31 and support 3
pub entry_of_2_5 : IsEntryOf base_a (2 ∷ 5 ∷ []) (entry_of (2 ∷ 5 ∷ []) 31 3)
entry_of_2_5 = record { key = refl; earned = refl; held_by = refl }

pub not_with_support_2 : IsEntryOf base_a (2 ∷ 5 ∷ []) (entry_of (2 ∷ 5 ∷ []) 31 2) → ⊥
not_with_support_2 is = subst (λ n. T (n == 2)) is.held_by tt

-- {2} isn't closed: {2, 3} has its support
pub not_closed_2 : IsClosedSet base_a (2 ∷ []) → ⊥
not_closed_2 closed = closed (2 ∷ 3 ∷ []) refl refl

-- in the record above `1 -1 2 -1` is found at 8 and not at 9, with one entry
pub sequence_found_at_8 : IsFoundSequence (later_is_greatest ∷ []) (pos 8) ((1 ∷ []) ∷ (2 ∷ []) ∷ [])
sequence_found_at_8 = record {
  some = ltb-true 0 2 refl;
  filled = (ltb-true 0 1 refl, (ltb-true 0 1 refl, tt));
  ascending = ((tt, tt), ((tt, tt), tt));
  held = ltb-true 0 1 refl;
  earns = record { le = tt };
}

pub sequence_not_found_at_9 : IsFoundSequence (later_is_greatest ∷ []) (pos 9) ((1 ∷ []) ∷ (2 ∷ []) ∷ []) → ⊥
sequence_not_found_at_9 found = found.earns.le

pub entry_of_sequence : IsSequenceEntryOf (later_is_greatest ∷ []) ((1 ∷ []) ∷ (2 ∷ []) ∷ [])
    (sequence_entry_of ((1 ∷ []) ∷ (2 ∷ []) ∷ []) 8 1)
entry_of_sequence = record { key = refl; earned = refl; held_by = refl }

pub not_with_support_of_2 : IsSequenceEntryOf (later_is_greatest ∷ []) ((1 ∷ []) ∷ (2 ∷ []) ∷ [])
    (sequence_entry_of ((1 ∷ []) ∷ (2 ∷ []) ∷ []) 8 2) → ⊥
not_with_support_of_2 is = subst (λ n. T (n == 2)) is.held_by tt
