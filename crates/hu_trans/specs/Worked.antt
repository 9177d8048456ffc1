-- Worked lines, by computation.
use Rattle.std.specs.Prelude.{◌≡◌, pos, negsuc, Ok, Err, [], ◌∷◌, codes, refl}
use Rattle.hu_trans.specs.declared.fault.Fault.TheVariants.{
  NotThreeParts,
  BadNumber,
  NoItems,
  CountsDiffer,
  ItemOutOfRange,
  DuplicateItem,
  SumTooLarge,
  TotalDisagrees,
}
use Rattle.hu_trans.specs.Reading.{reading}

pub four_items : reading (codes "3 5 2 4:20:3 3 8 6") ≡ Ok ((2, pos 8) ∷ (3, pos 3) ∷ (4, pos 6) ∷ (5, pos 3) ∷ [])
four_items = refl

pub spaces_and_zeros : reading (codes "  7 :  04 : 4") ≡ Ok ((7, pos 4) ∷ [])
spaces_and_zeros = refl

pub two_parts_missing : reading (codes "1 2") ≡ Err NotThreeParts
two_parts_missing = refl

pub one_part_more : reading (codes "1:1:1:5") ≡ Err NotThreeParts
one_part_more = refl

pub bad_second_item : reading (codes "1 x:3:1 y") ≡ Err (BadNumber 1 2)
bad_second_item = refl

pub no_total : reading (codes "1::1") ≡ Err (BadNumber 2 1)
no_total = refl

pub two_totals : reading (codes "1:1 2:1") ≡ Err (BadNumber 2 2)
two_totals = refl

pub item_below_zero : reading (codes "-1:1:1") ≡ Err (BadNumber 1 1)
item_below_zero = refl

pub nothing_told : reading (codes ":0:") ≡ Err NoItems
nothing_told = refl

pub value_missing : reading (codes "1 2:3:3") ≡ Err (CountsDiffer 2 1)
value_missing = refl

pub great_second_item : reading (codes "1 2147483648:3:1 2") ≡ Err (ItemOutOfRange 2)
great_second_item = refl

pub greatest_item : reading (codes "2147483647:0:0") ≡ Ok ((2147483647, pos 0) ∷ [])
greatest_item = refl

pub item_twice : reading (codes "1 1:9:2 2") ≡ Err (DuplicateItem (record { 0 = 1 }))
item_twice = refl

pub value_below_zero : reading (codes "1 2:1:4 -3") ≡ Ok ((1, pos 4) ∷ (2, negsuc 2) ∷ [])
value_below_zero = refl

pub sum_past_the_limit : reading (codes "1 2:0:170141183460469231731687303715884105727 1") ≡ Err SumTooLarge
sum_past_the_limit = refl

pub wrong_total : reading (codes "1:5:4") ≡ Err (TotalDisagrees (pos 5) (pos 4))
wrong_total = refl

pub plain_sum : reading (codes "1 2:5:8 -3") ≡ Ok ((1, pos 8) ∷ (2, negsuc 2) ∷ [])
plain_sum = refl

pub positive_sum : reading (codes "1 2:8:8 -3") ≡ Ok ((1, pos 8) ∷ (2, negsuc 2) ∷ [])
positive_sum = refl

pub neither_sum : reading (codes "1 2:6:8 -3") ≡ Err (TotalDisagrees (pos 6) (pos 5))
neither_sum = refl
