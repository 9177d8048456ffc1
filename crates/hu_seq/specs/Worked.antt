-- Worked lines, by computation.
use Rattle.std.specs.Prelude.{◌≡◌, ℕ, ℤ, List, pos, None, Some, Ok, Err, [], ◌∷◌, codes, refl, replicate}
use Rattle.hu_seq.specs.declared.fault.SeqFault.TheVariants.{
  BadToken,
  NoEnd,
  AfterEnd,
  OpenItemset,
  EmptyItemset,
  NoItems,
  TooManyItems,
  ItemOutOfRange,
  DuplicateItem,
  Negative,
  SumTooLarge,
  TotalDisagrees,
}
use Rattle.hu_seq.specs.declared.token.Token.TheVariants.{Cell}
use Rattle.std.specs.Fmt.{digits}
use Rattle.hu_seq.specs.Canonical.{canonical_line}
use Rattle.hu_seq.specs.Token.{token_of}
use Rattle.hu_seq.specs.Reading.{reading, too_many_items}

pub one_element : reading (codes "3[1] 1[2] -1 -2 SUtility:3") ≡ Ok (((1, pos 2) ∷ (3, pos 1) ∷ []) ∷ [])
unfolding reading token_of
one_element = refl

pub no_total : reading (codes "1[2] -1 -2") ≡ Ok (((1, pos 2) ∷ []) ∷ [])
unfolding reading token_of
no_total = refl

pub two_elements : reading (codes "1[2] -1 1[3] -1 -2 SUtility:5") ≡ Ok (((1, pos 2) ∷ []) ∷ ((1, pos 3) ∷ []) ∷ [])
unfolding reading token_of
two_elements = refl

pub spaces_and_zeros : reading (codes "  07[1]  2[004]   -1 -2 SUtility:05 ") ≡ Ok (((2, pos 4) ∷ (7, pos 1) ∷ []) ∷ [])
unfolding reading token_of
spaces_and_zeros = refl

pub bad_cell : reading (codes "1[x] -1 -2 SUtility:2") ≡ Err (BadToken 1)
unfolding reading token_of
bad_cell = refl

pub end_missing : reading (codes "1[2] -1 SUtility:2") ≡ Err NoEnd
unfolding reading token_of
end_missing = refl

pub total_first : reading (codes "SUtility:2 1[2] -1 -2") ≡ Err AfterEnd
unfolding reading token_of
total_first = refl

pub more_after_total : reading (codes "1[2] -1 -2 SUtility:2 -1") ≡ Err AfterEnd
unfolding reading token_of
more_after_total = refl

pub left_open : reading (codes "1[2] -2 SUtility:2") ≡ Err OpenItemset
unfolding reading token_of
left_open = refl

pub first_empty : reading (codes "-1 1[2] -1 -2 SUtility:2") ≡ Err EmptyItemset
unfolding reading token_of
first_empty = refl

pub second_empty : reading (codes "1[2] -1 -1 -2 SUtility:2") ≡ Err EmptyItemset
unfolding reading token_of
second_empty = refl

pub nothing_told : reading (codes "-2 SUtility:0") ≡ Err NoItems
unfolding reading token_of
nothing_told = refl

pub one_cell_more : too_many_items (replicate 4097 (Cell 1 (pos 0))) ≡ Some (TooManyItems 4097)
one_cell_more = refl

pub most_cells : too_many_items (replicate 4096 (Cell 1 (pos 0))) ≡ None
most_cells = refl

pub great_item : reading (codes "2147483648[1] -1 -2 SUtility:1") ≡ Err (ItemOutOfRange 1)
unfolding reading token_of
great_item = refl

pub item_twice : reading (codes "1[2] 1[3] -1 -2 SUtility:5") ≡ Err (DuplicateItem (record { 0 = 1 }))
unfolding reading token_of
item_twice = refl

pub smallest_twice : reading (codes "9[1] 9[1] -1 7[1] 4[1] 7[1] 4[1] -1 -2") ≡ Err (DuplicateItem (record { 0 = 9 }))
unfolding reading token_of
smallest_twice = refl

pub value_below_zero : reading (codes "1[-2] -1 -2 SUtility:-2") ≡ Err (Negative 1)
unfolding reading token_of
value_below_zero = refl

pub sum_past_the_limit : reading (codes "1[170141183460469231731687303715884105727] 2[1] -1 -2 SUtility:0") ≡ Err SumTooLarge
unfolding reading token_of
sum_past_the_limit = refl

pub wrong_total : reading (codes "1[2] -1 -2 SUtility:3") ≡ Err (TotalDisagrees (pos 3) (pos 2))
unfolding reading token_of
wrong_total = refl

-- a sequence with its canonical line, which says it again
abbrev pub of_two : List (List (ℕ × ℤ))
of_two = ((1, pos 5) ∷ (2, pos 3) ∷ []) ∷ ((4, pos 1) ∷ []) ∷ []

pub canonical_of_two : canonical_line of_two ≡ codes "1[5] 2[3] -1 4[1] -1 -2 SUtility:9"
unfolding digits
canonical_of_two = refl

pub canonical_of_two_read : reading (canonical_line of_two) ≡ Ok of_two
unfolding reading token_of digits
canonical_of_two_read = refl

-- what breaks a rule isn't said again: an itemset without a cell is refused, and items that
-- descend are put in order
pub empty_itemset_not_read : reading (canonical_line ([] ∷ [])) ≡ Err EmptyItemset
unfolding reading token_of digits
empty_itemset_not_read = refl

pub descending_put_in_order : reading (canonical_line (((2, pos 3) ∷ (1, pos 5) ∷ []) ∷ [])) ≡
    Ok (((1, pos 5) ∷ (2, pos 3) ∷ []) ∷ [])
unfolding reading token_of digits
descending_put_in_order = refl
