-- Signed numbers among ascending items.
use Rattle.std.proofs.Common.{◌≡◌, ◌∙◌, ℕ, zero, suc, ◌<◌, ◌≤◌, ◌^◌, ◌-◌, ℤ, pos, negsuc, ◌<ℤ◌, ◌≤ℤ◌, int_lt, SFits, of_z, false, eqb, List, [], ◌∷◌, length}
use Rattle.std.proofs.Common.{get_or, refl, sym, ap, inl, inr, arith}
use Rattle.std.specs.Int.{w64}
use Rattle.std.specs.List.{AllByRecursion}
use Rattle.std.specs.List.Sorted.{IsPartitionedBy, IsPartitionPoint}
use Rattle.std.specs.Ordering.{int_eq}
use Rattle.std.proofs.lemmas.Int.{ints}
use Rattle.std.proofs.lemmas.List.{get_or-map, length-map}
use Rattle.std.proofs.lemmas.Bool.{cases_lt, false_from_ne_true, or_from, ne_eqb}
use Rattle.std.proofs.lemmas.Bool.Decides.{Decides-int_eq, Decides-eqb, same_from_decides}
use Rattle.hu_kind.specs.declared.item.Item.{Item}
use Rattle.hu_kind.specs.Order.{Ascend}
use Rattle.hu_kind.proofs.lemmas.Ascending.{rises-between}
use Rattle.hu_totals.specs.Weights.{numbers_of}
use Rattle.hu_closed.specs.Keys.{is_among}

-- `==` of 64-bit numbers, at a number that is not below 0
pub same_number : (m : ℕ) (z : ℤ) → m < 2 ^ 63 → SFits w64 z → eqb (of_z w64 (pos m)) (of_z w64 z) ≡ int_eq z (pos m)
same_number m (pos n) small fits =
    let e = Decides-int_eq (pos n) (pos m) in
    same_from_decides (eqb m n) (int_eq (pos n) (pos m)) (Decides-eqb m n) (λ h. let same = e.0 h in omega (arith, ints, same), λ h. e.1 (ap pos (sym h)))
same_number m (negsuc n) small fits = ne_eqb m (2 ^ 64 - suc n) (λ e. let h = fits in omega (arith, ints))

pub ne_above : (x y : ℤ) → x <ℤ y → int_eq y x ≡ false
ne_above x y h = false_from_ne_true (int_eq y x) (λ e. let same = (Decides-int_eq y x).0 e in omega (arith, ints))

pub ne_below : (x y : ℤ) → x <ℤ y → int_eq x y ≡ false
ne_below x y h = false_from_ne_true (int_eq x y) (λ e. let same = (Decides-int_eq x y).0 e in omega (arith, ints))

-- no number is among items that are all above it
pub is_among-above : (x : ℕ) (xs : List ℕ) (number : ℤ) → AllByRecursion (λ y. x < y) xs → number ≤ℤ pos x → is_among xs number ≡ false
is_among-above x [] number up low = refl
is_among-above x (y ∷ ys) number up low =
    let below : number <ℤ pos y = omega (arith, ints, up.0) in
    or_from (int_eq number (pos y)) (is_among ys number) (ne_below number (pos y) below) (is_among-above x ys number up.1 low)

-- nor among items that are all below it
pub is_among-below : (xs : List ℕ) (number : ℤ) → ((j : ℕ) → j < length xs → pos (get_or xs j 0) <ℤ number) → is_among xs number ≡ false
is_among-below [] number low = refl
is_among-below (y ∷ ys) number low =
    or_from (int_eq number (pos y)) (is_among ys number) (ne_above (pos y) number (low 0 (omega arith)))
    (is_among-below ys number (λ j within. low (suc j) (omega arith)))

-- between both it is at its place alone
pub is_among-at : (xs : List ℕ) (k : ℕ) (number : ℤ) → Ascend xs → ((j : ℕ) → j < k → pos (get_or xs j 0) <ℤ number)
    → number ≤ℤ pos (get_or xs k 0) → k < length xs → is_among xs number ≡ int_eq number (pos (get_or xs k 0))
is_among-at [] k number up low high within = absurd (omega arith)
is_among-at (x ∷ xs) zero number up low high within = rw (is_among-above x xs number up.0 high) (grind arith)
is_among-at (x ∷ xs) (suc k) number up low high within =
    rw (ne_above (pos x) number (low 0 (omega arith))) (is_among-at xs k number up.1 (λ j before. low (suc j) (omega arith)) high (omega arith))

-- items by a signed number: those before it come first
pub IsPartitionedBy-items : (items : List Item) (number : ℤ) → Ascend (numbers_of items) → IsPartitionedBy (λ item. int_lt (pos item.0) number) items
IsPartitionedBy-items items number up i j d upto within low = elim (cases_lt i j) [
  | inl before ↦
      let rise = rises-between (numbers_of items) i j up before (omega (arith, length-map items (λ (item : Item). item.0))) in
      let at_i : get_or (numbers_of items) i 0 ≡ (get_or items i d).0 = get_or-map (λ item. item.0) items i d 0 (omega arith) in
      let at_j : get_or (numbers_of items) j 0 ≡ (get_or items j d).0 = get_or-map (λ item. item.0) items j d 0 within in
      grind (arith, ints)
  | inr after ↦ let same : i ≡ j = omega arith in rw same low
]

-- where items part at a number, it is among them just where it is the item there
pub is_among-parted : (items : List Item) (number : ℤ) (k : ℕ) (d : Item) → Ascend (numbers_of items)
    → IsPartitionPoint (λ item. pos item.0 <ℤ number) (λ item. number ≤ℤ pos item.0) items k → k < length items
    → is_among (numbers_of items) number ≡ int_eq number (pos (get_or items k d).0)
is_among-parted items number k d up parts within =
    let same : get_or (numbers_of items) k 0 ≡ (get_or items k d).0 = get_or-map (λ item. item.0) items k d 0 within in
    let high : number ≤ℤ pos (get_or (numbers_of items) k 0) = let h = parts.1 k d (omega arith) within in omega (arith, ints, h, same) in
    let low : (j : ℕ) → j < k → pos (get_or (numbers_of items) j 0) <ℤ number = λ j before.
    let at : get_or (numbers_of items) j 0 ≡ (get_or items j d).0 = get_or-map (λ item. item.0) items j d 0 (omega arith) in
    let h = parts.0 j d (omega arith) before in omega (arith, ints, h, at) in
    is_among-at (numbers_of items) k number up low high (omega (arith, length-map items (λ (item : Item). item.0))) ∙ ap (λ n. int_eq number (pos n)) same

pub is_among-past : (items : List Item) (number : ℤ) (k : ℕ)
    → IsPartitionPoint (λ item. pos item.0 <ℤ number) (λ item. number ≤ℤ pos item.0) items k → length items ≤ k
    → is_among (numbers_of items) number ≡ false
is_among-past items number k parts past =
    is_among-below (numbers_of items) number (λ j within.
    let inside : j < length items = omega (arith, length-map items (λ (item : Item). item.0)) in
    let at : get_or (numbers_of items) j 0 ≡ (get_or items j (record { 0 = 0 })).0 = get_or-map (λ item. item.0) items j (record { 0 = 0 }) 0 inside in
    let h = parts.0 j (record { 0 = 0 }) (omega arith) (omega arith) in omega (arith, ints, h, at))
