-- The values of a record by their slots: what they add to the bounds is what the prefix may earn.
use Rattle.std.proofs.Common.{◌≡◌, ℕ, zero, suc, ◌+◌, ◌<◌, ◌≤◌, Bool, true, false, cond, eqb, leb, nat_eq, ℤ, pos, negsuc, ◌+ℤ◌, unsigned_abs, Option, None}
use Rattle.std.proofs.Common.{Some, position, List, [], ◌∷◌, ◌++◌, length, drop, get_or, refl, set, to_z, of_z, ◌^◌, sym, ap, ◌∙◌, subst, inl, inr, arith}
use Rattle.std.proofs.Common.{sum_by, IsPermutation}
use Rattle.std.specs.Prelude.{⊤}
use Rattle.std.specs.Int.{w128}
use Rattle.std.specs.List.{AllByRecursion}
use Rattle.std.specs.List.Sorted.{IsNonDecreasingBy}
use Rattle.std.proofs.lemmas.Bool.{eq-eqb, ne_eqb, cases_eq, cases_lt, le-leb, lt-leb, or_from, both_ways}
use Rattle.std.proofs.lemmas.Int.{ints}
use Rattle.std.proofs.lemmas.List.{drop_more, get_or_default, get_or-set_same, get_or-set_other}
use Rattle.std.proofs.lemmas.List.Sums.{sum_by-cons, sum_by-take-drop}
use Rattle.std.proofs.lemmas.List.Sorted.{sum_by-IsPermutation, All-permutation}
use Rattle.hu_kind.specs.declared.item.Cell.{Cell}
use Rattle.hu_kind.specs.Cell.{pairs_of}
use Rattle.hu_kind.specs.Order.{Ascend}
use Rattle.hu_kind.specs.Record.{has, items_in, value_of, absolute_of, positive_part}
use Rattle.hu_kind.proofs.lemmas.Each.{each-from_all, each-weaker, each-get}
use Rattle.hu_kind.proofs.lemmas.Earned.{positive_part-within}
use Rattle.hu_proof.specs.declared.slots.Slotted.{Slotted}
use Rattle.hu_proof.specs.Bounds.{is_among, after, later_gain}
use Rattle.hu_proof.specs.Places.{PlaceOf, later_size, Apart, IsRoomy, Rises, Stands}
use Rattle.hu_proof.specs.Slots.{bound_at, part, slotted, slotted_one, gain_in, size_in, gained, named_at, share_at, shares_at}
use Rattle.hu_proof.proofs.Orders.{member-among}
use Rattle.hu_proof.proofs.Ranks.{StandsAt, StandsAt-position, not_among-position, not_among-drop, Member-drop, not_in-drop, after-drop}
use Rattle.hu_proof.proofs.Lowest.{stands-at}
use Rattle.hu_proof.proofs.PlaceLemmas.{room-share}
use Rattle.hu_proof.proofs.lemmas.OrderMembers.{not_among}

-- ---- parts

pub part-is : (value : ℤ) → pos (part value) ≡ positive_part value
part-is (pos n) = refl
part-is (negsuc n) = refl

-- ---- sums over values

sum-same : (f g : Slotted → ℕ) (xs : List Slotted) → AllByRecursion (λ x. f x ≡ g x) xs → sum_by f xs ≡ sum_by g xs
sum-same f g [] all = refl
sum-same f g (x ∷ xs) all = omega (arith, sum_by-cons f x xs, sum_by-cons g x xs, all.0, sum-same f g xs all.1)

-- what a function of values has at one that has a slot
of_one : (Slotted → ℕ) → Option ℕ → ℤ → ℕ
of_one f None value = 0
of_one f (Some slot) value = f (record { slot = slot; value = value })

sum-slotted : (f : Slotted → ℕ) (named : List ℕ) (cell : ℕ × ℤ) (cells : List (ℕ × ℤ))
    → sum_by f (slotted named (cell ∷ cells)) ≡ of_one f (position (nat_eq cell.0) named) cell.1 + sum_by f (slotted named cells)
unfolding of_one
sum-slotted f named cell cells = by (position (nat_eq cell.0) named)
  where
    by : (o : Option ℕ) → sum_by f (slotted_one o cell.1 ++ slotted named cells) ≡ of_one f o cell.1 + sum_by f (slotted named cells)
    by None = omega arith
    by (Some slot) = sum_by-cons f (record { slot = slot; value = cell.1 }) (slotted named cells)

-- ---- where an item stands among the named ones

stands-same : (named : List ℕ) (x i j : ℕ) → Apart named → StandsAt named x i → StandsAt named x j → i ≡ j
stands-same named x i j apart s t = elim (cases_lt i j) [
  | inl before ↦ absurd (not_in-drop named x i j apart s before (Member-drop named x j j t (omega arith)))
  | inr after' ↦ elim (cases_lt j i) [
    | inl before ↦ absurd (not_in-drop named x j i apart t before (Member-drop named x i i s (omega arith)))
    | inr same ↦ omega arith
  ]
]

-- whether a slot is among those from one on
from_slot : ℕ → Option ℕ → Bool
from_slot k None = false
from_slot k (Some slot) = leb k slot

among-drop : (named : List ℕ) (x k : ℕ) (o : Option ℕ) → Apart named → position (nat_eq x) named ≡ o → is_among x (drop k named) ≡ from_slot k o
unfolding from_slot
among-drop named x k None apart e = not_among-drop named x k e
among-drop named x k (Some slot) apart e =
    let s = StandsAt-position named x slot e in
    elim (cases_lt slot k) [
      | inl before ↦ not_among x (drop k named) (not_in-drop named x slot k apart s before) ∙ sym (lt-leb k slot before)
      | inr upto ↦ member-among x (drop k named) (Member-drop named x slot k s (omega arith)) ∙ sym (le-leb k slot (omega arith))
    ]

-- ---- the values from a slot on

-- the sum of the values above 0 from a slot on
gain_from : ℕ → Slotted → ℕ
gain_from k one = cond (leb k one.slot) (part one.value) 0

gain-slotted : (named : List ℕ) (k : ℕ) (cells : List (ℕ × ℤ)) → Apart named
    → pos (sum_by (gain_from k) (slotted named cells)) ≡ later_gain (drop k named) cells
unfolding gain_from from_slot of_one
gain-slotted named k [] apart = refl
gain-slotted named k (cell ∷ cells) apart =
    let ih = gain-slotted named k cells apart in
    let split = sum-slotted (gain_from k) named cell cells in
    let here = by (position (nat_eq cell.0) named) refl in
    omega (arith, ints, split, here, ih)
  where
    by : (o : Option ℕ) → position (nat_eq cell.0) named ≡ o
        → pos (of_one (gain_from k) o cell.1) ≡ cond (is_among cell.0 (drop k named)) (positive_part cell.1) (pos 0)
    by None e = rw (among-drop named cell.0 k None apart e) refl
    by (Some slot) e = rw (among-drop named cell.0 k (Some slot) apart e) (turn (leb k slot))
      where
        turn : (b : Bool) → pos (cond b (part cell.1) 0) ≡ cond b (positive_part cell.1) (pos 0)
        turn true = part-is cell.1
        turn false = refl

pub size-slotted : (named : List ℕ) (cells : List (ℕ × ℤ)) → Apart named → size_in (slotted named cells) ≡ later_size named cells
unfolding from_slot of_one
size-slotted named [] apart = refl
size-slotted named (cell ∷ cells) apart =
    let ih = size-slotted named cells apart in
    let split = sum-slotted (λ one. unsigned_abs one.value) named cell cells in
    let here = by (position (nat_eq cell.0) named) refl in
    omega (arith, split, here, ih)
  where
    by : (o : Option ℕ) → position (nat_eq cell.0) named ≡ o
        → of_one (λ one. unsigned_abs one.value) o cell.1 ≡ cond (is_among cell.0 named) (unsigned_abs cell.1) 0
    by None e = rw (among-drop named cell.0 0 None apart e) refl
    by (Some slot) e = rw (among-drop named cell.0 0 (Some slot) apart e, le-leb 0 slot (omega arith)) refl

-- ---- the value at one slot

not_above : (x : ℕ) (cells : List (ℕ × ℤ)) → AllByRecursion (λ y. x < y) (items_in cells) → has x cells ≡ false
not_above x [] all = refl
not_above x (cell ∷ cells) all =
    let first : x < cell.0 = all.0 in
    or_from (eqb x cell.0) (has x cells) (ne_eqb x cell.0 (λ e. absurd (omega arith))) (not_above x cells all.1)

at_slot : ℕ → (ℤ → ℕ) → Slotted → ℕ
at_slot slot h one = cond (eqb slot one.slot) (h one.value) 0

sum-at_slot : (named : List ℕ) (x slot : ℕ) (h : ℤ → ℕ) (cells : List (ℕ × ℤ)) → Apart named → StandsAt named x slot → Ascend (items_in cells)
    → sum_by (at_slot slot h) (slotted named cells) ≡ cond (has x cells) (h (value_of x cells)) 0
unfolding at_slot of_one
sum-at_slot named x slot h [] apart s up = refl
sum-at_slot named x slot h (cell ∷ cells) apart s up =
    let ih = sum-at_slot named x slot h cells apart s up.1 in
    let split = sum-slotted (at_slot slot h) named cell cells in
    let here : of_one (at_slot slot h) (position (nat_eq cell.0) named) cell.1 ≡ cond (eqb x cell.0) (h cell.1) 0 =
    by (position (nat_eq cell.0) named) refl in
    elim (cases_eq x cell.0) [
      | inl e ↦
          let yes : eqb x cell.0 ≡ true = eq-eqb x cell.0 e in
          let none : has x cells ≡ false = not_above x cells (subst (λ y. AllByRecursion (λ z. y < z) (items_in cells)) (sym e) up.0) in
          let first = rw yes at here in
          let rest = rw none at ih in
          simp yes (omega (arith, split, first, rest))
      | inr ne ↦
          let no : eqb x cell.0 ≡ false = ne_eqb x cell.0 ne in
          let first = rw no at here in
          simp no (omega (arith, split, first, ih))
    ]
  where
    by : (o : Option ℕ) → position (nat_eq cell.0) named ≡ o → of_one (at_slot slot h) o cell.1 ≡ cond (eqb x cell.0) (h cell.1) 0
    by None e =
        let no : eqb x cell.0 ≡ false = ne_eqb x cell.0 (λ same. both_ways (is_among cell.0 named) (not_among-position named cell.0 e)
        (subst (λ y. is_among y named ≡ true) same (member-among x named (Member-drop named x slot 0 s (omega arith))))) in
        rw no refl
    by (Some place) e =
        let t = StandsAt-position named cell.0 place e in
        elim (cases_eq slot place) [
          | inl same ↦
              let yes : eqb slot place ≡ true = eq-eqb slot place same in
              let item : x ≡ cell.0 =
              sym s.is ∙ (get_or_default named slot x cell.0 s.within ∙ (ap (λ k. get_or named k cell.0) same ∙ t.is)) in
              let yes' : eqb x cell.0 ≡ true = eq-eqb x cell.0 item in
              rw (yes, yes') refl
          | inr other ↦
              let no : eqb slot place ≡ false = ne_eqb slot place other in
              let no' : eqb x cell.0 ≡ false =
              ne_eqb x cell.0 (λ same. other (stands-same named x slot place apart s (subst (λ y. StandsAt named y place) (sym same) t))) in
              rw (no, no') refl
        ]

-- ---- one value more, backward

gain-size : (values : List Slotted) → gain_in values ≤ size_in values
gain-size [] = omega arith
gain-size (one ∷ values) = omega (
  arith,
  sum_by-cons (λ (v : Slotted). part v.value) one values,
  sum_by-cons (λ (v : Slotted). unsigned_abs v.value) one values,
  positive_part-within one.value,
  gain-size values,
)

-- what is known of a value among others
pub record AtValue (values : List Slotted) (i : ℕ) (d : Slotted) : Type 0 where
  pub gain : gain_in (drop i values) ≡ part (get_or values i d).value + gain_in (drop (i + 1) values)
  pub size : unsigned_abs (get_or values i d).value + gain_in (drop (i + 1) values) ≤ size_in values

pub at-value : (values : List Slotted) (i : ℕ) (d : Slotted) → i < length values → AtValue values i d
at-value values i d within =
    let rest = drop (i + 1) values in
    record {
      gain = ap gain_in (drop_more values i d within) ∙ sum_by-cons (λ (v : Slotted). part v.value) (get_or values i d) rest;
      size = omega (
        arith,
        ap size_in (drop_more values i d within),
        sum_by-cons (λ (v : Slotted). unsigned_abs v.value) (get_or values i d) rest,
        gain-size rest,
        sum_by-take-drop (λ (v : Slotted). unsigned_abs v.value) values i,
      );
    }

-- what a value adds to its own slot
abbrev pub added_by : ℤ → List Slotted → ℕ → Slotted → ℕ
added_by own values i d = part ((own +ℤ (get_or values i d).value) +ℤ pos (gain_in (drop (i + 1) values)))

pub gained-more : (own : ℤ) (slot : ℕ) (values : List Slotted) (i : ℕ) (d : Slotted) → i < length values
    → gained own slot (drop i values) ≡ cond (eqb slot (get_or values i d).slot) (added_by own values i d) 0 + gained own slot (drop (i + 1) values)
gained-more own slot values i d within = ap (gained own slot) (drop_more values i d within)

pub gained-drop : (own : ℤ) (slot : ℕ) (values : List Slotted) (i : ℕ) → gained own slot (drop i values) ≤ gained own slot values
gained-drop own slot values zero = omega arith
gained-drop own slot [] (suc i) = omega arith
gained-drop own slot (one ∷ values) (suc i) = let ih = gained-drop own slot values i in omega arith

pub added-within : (own : ℤ) (values : List Slotted) (i : ℕ) (d : Slotted) → i < length values
    → added_by own values i d + gained own (get_or values i d).slot (drop (i + 1) values) ≤ gained own (get_or values i d).slot values
added-within own values i d within =
    let slot = (get_or values i d).slot in
    let here : eqb slot slot ≡ true = eq-eqb slot slot refl in
    let more = rw here at (gained-more own slot values i d within) in
    omega (arith, more, gained-drop own slot values i)

-- the bounds after it
pub added-more : (own : ℤ) (values : List Slotted) (i : ℕ) (d : Slotted) (first bounds : List ℤ) (v : ℤ) → i < length values
    → (get_or values i d).slot < length bounds
    → v ≡ bound_at bounds (get_or values i d).slot +ℤ pos (added_by own values i d)
    → (slot : ℕ) → bound_at bounds slot ≡ bound_at first slot +ℤ pos (gained own slot (drop (i + 1) values))
    → bound_at (set bounds (get_or values i d).slot v) slot ≡ bound_at first slot +ℤ pos (gained own slot (drop i values))
added-more own values i d first bounds v within inside is slot before =
    let at = (get_or values i d).slot in
    let more = gained-more own slot values i d within in
    elim (cases_eq slot at) [
      | inl e ↦
          let here : eqb slot at ≡ true = eq-eqb slot at e in
          let sum = rw here at more in
          let new : bound_at (set bounds at v) slot ≡ v = ap (bound_at (set bounds at v)) e ∙ get_or-set_same bounds at v (pos 0) inside in
          let old : bound_at bounds slot ≡ bound_at bounds at = ap (bound_at bounds) e in
          omega (arith, ints, new, old, sum, is, before)
      | inr ne ↦
          let other : eqb slot at ≡ false = ne_eqb slot at ne in
          let sum = rw other at more in
          let new : bound_at (set bounds at v) slot ≡ bound_at bounds slot = get_or-set_other bounds at slot v (pos 0) ne in
          omega (arith, ints, new, sum, before)
    ]

pub gain-next : (a b : ℤ) (n m : ℕ) → a ≡ pos n → b ≡ pos m → m + n < 2 ^ 127 → to_z w128 (of_z w128 (a +ℤ to_z w128 (of_z w128 b))) ≡ pos (m + n)
gain-next a b n m ea eb fits = omega (arith, ints)

-- ---- the values of one cell more

pub slotted-more : (named : List ℕ) (cells : List Cell) (i : ℕ) (d : Cell) → i < length cells → slotted named (pairs_of (drop i cells))
    ≡ slotted_one (position (nat_eq (get_or cells i d).item.0) named) (get_or cells i d).value ++ slotted named (pairs_of (drop (i + 1) cells))
slotted-more named cells i d within = ap (λ cs. slotted named (pairs_of cs)) (drop_more cells i d within)

-- ---- values in the order of their slots

abbrev pub Rising : List Slotted → Type 0
Rising [] = ⊤
Rising (one ∷ values) = AllByRecursion (λ v. one.slot < v.slot) values × Rising values

-- a value counts once at its slot
strict : (slot : ℕ) (values : List Slotted) → AllByRecursion (λ v. slot ≤ v.slot) values → sum_by (at_slot slot (λ v. 1)) values ≡ 0
    → AllByRecursion (λ v. slot < v.slot) values
unfolding at_slot
strict slot [] upto none = tt
strict slot (one ∷ values) upto none =
    let split = sum_by-cons (at_slot slot (λ v. 1)) one values in (
      elim (cases_eq slot one.slot) [
        | inl e ↦
            let here : eqb slot one.slot ≡ true = eq-eqb slot one.slot e in
            let first : at_slot slot (λ v. 1) one ≡ 1 = rw here refl in
            absurd (omega (arith, split, first, none))
        | inr ne ↦ let low : slot ≤ one.slot = upto.0 in omega arith
      ],
      strict slot values upto.1 (omega (arith, split, none)),
    )

Rising-from : (n : ℕ) (values : List Slotted) → AllByRecursion (λ v. v.slot < n) values → IsNonDecreasingBy (λ v. v.slot) values
    → ((slot : ℕ) → slot < n → sum_by (at_slot slot (λ v. 1)) values ≤ 1) → Rising values
unfolding at_slot
Rising-from n [] each up once = tt
Rising-from n (one ∷ values) each up once =
    let split = sum_by-cons (at_slot one.slot (λ v. 1)) one values in
    let here : eqb one.slot one.slot ≡ true = eq-eqb one.slot one.slot refl in
    let first : at_slot one.slot (λ v. 1) one ≡ 1 = rw here refl in (
      strict one.slot values (each-from_all (λ v. one.slot ≤ v.slot) values (λ k d within. up 0 (suc k) d (omega arith) (omega arith)))
          (omega (arith, split, first, once one.slot each.0)),
      Rising-from n values each.1 (λ i j d low within. up (suc i) (suc j) d (omega arith) (omega arith))
          (λ slot low. omega (arith, sum_by-cons (at_slot slot (λ v. 1)) one values, once slot low)),
    )

-- ---- what values add is said without their order

-- what a value adds to a slot, where so much is gained from each slot on
weight : ℤ → (ℕ → ℕ) → ℕ → Slotted → ℕ
weight own up slot one = cond (eqb slot one.slot) (part ((own +ℤ one.value) +ℤ pos (up (one.slot + 1)))) 0

gain_after : List Slotted → ℕ → ℕ
gain_after values k = sum_by (gain_from k) values

gain-all : (slot : ℕ) (values : List Slotted) → AllByRecursion (λ v. slot < v.slot) values → gain_after values (slot + 1) ≡ gain_in values
unfolding gain_from gain_after
gain-all slot values above = sum-same (gain_from (slot + 1)) (λ v. part v.value) values
    (each-weaker (λ v. slot < v.slot) (λ v. gain_from (slot + 1) v ≡ part v.value) values
    (λ v low. rw (le-leb (slot + 1) v.slot (omega arith)) refl) above)

gained-weight : (own : ℤ) (slot : ℕ) (values : List Slotted) → Rising values → gained own slot values ≡ sum_by (weight own (gain_after values) slot) values
unfolding gain_from gain_after weight
gained-weight own slot [] up = refl
gained-weight own slot (one ∷ values) up =
    let ih = gained-weight own slot values up.1 in
    let split = sum_by-cons (weight own (gain_after (one ∷ values)) slot) one values in
    let none : gain_from (one.slot + 1) one ≡ 0 = rw (lt-leb (one.slot + 1) one.slot (omega arith)) refl in
    let cut : gain_after (one ∷ values) (one.slot + 1) ≡ gain_from (one.slot + 1) one + gain_after values (one.slot + 1) =
    sum_by-cons (gain_from (one.slot + 1)) one values in
    let first : gain_after (one ∷ values) (one.slot + 1) ≡ gain_in values = omega (arith, cut, none, gain-all one.slot values up.0) in
    let here : weight own (gain_after (one ∷ values)) slot one ≡ cond (eqb slot one.slot) (part ((own +ℤ one.value) +ℤ pos (gain_in values))) 0 =
    ap (λ n. cond (eqb slot one.slot) (part ((own +ℤ one.value) +ℤ pos n)) 0) first in
    let later : (v : Slotted) → one.slot < v.slot → gain_after values (v.slot + 1) ≡ gain_after (one ∷ values) (v.slot + 1) =
    λ v low.
    let cut : gain_after (one ∷ values) (v.slot + 1) ≡ gain_from (v.slot + 1) one + gain_after values (v.slot + 1) =
    sum_by-cons (gain_from (v.slot + 1)) one values in
    let none : gain_from (v.slot + 1) one ≡ 0 = rw (lt-leb (v.slot + 1) one.slot (omega arith)) refl in
    omega (arith, cut, none) in
    let rest : sum_by (weight own (gain_after values) slot) values ≡ sum_by (weight own (gain_after (one ∷ values)) slot) values =
    sum-same (weight own (gain_after values) slot) (weight own (gain_after (one ∷ values)) slot) values
    (each-weaker (λ v. one.slot < v.slot) (λ v. weight own (gain_after values) slot v ≡ weight own (gain_after (one ∷ values)) slot v) values
    (λ v low. ap (λ n. cond (eqb slot v.slot) (part ((own +ℤ v.value) +ℤ pos n)) 0) (later v low)) up.0) in
    omega (arith, ih, split, here, rest)

-- as one slot's gain is the same for all of its values
weight-at : (own : ℤ) (up : ℕ → ℕ) (slot : ℕ) (one : Slotted) → weight own up slot one ≡ at_slot slot (λ v. part ((own +ℤ v) +ℤ pos (up (slot + 1)))) one
unfolding weight at_slot
weight-at own up slot one = elim (cases_eq slot one.slot) [
  | inl e ↦
      let here : eqb slot one.slot ≡ true = eq-eqb slot one.slot e in
      rw here (ap (λ k. part ((own +ℤ one.value) +ℤ pos (up (k + 1)))) (sym e))
  | inr ne ↦ let other : eqb slot one.slot ≡ false = ne_eqb slot one.slot ne in rw other refl
]

each-slot : (named : List ℕ) (cells : List (ℕ × ℤ)) → AllByRecursion (λ v. v.slot < length named) (slotted named cells)
each-slot named [] = tt
each-slot named (cell ∷ cells) = by (position (nat_eq cell.0) named) refl (each-slot named cells)
  where
    by : (o : Option ℕ) → position (nat_eq cell.0) named ≡ o → AllByRecursion (λ v. v.slot < length named) (slotted named cells)
        → AllByRecursion (λ v. v.slot < length named) (slotted_one o cell.1 ++ slotted named cells)
    by None e ih = ih
    by (Some slot) e ih = let at = StandsAt-position named cell.0 slot e in (at.within, ih)

each-moved : (P : Slotted → Type 0) (xs ys : List Slotted) → IsPermutation xs ys → AllByRecursion P xs → AllByRecursion P ys
each-moved P xs ys moved each = each-from_all P ys (All-permutation P xs ys moved (λ k d within. each-get P xs k d each within))

-- the values of a record in the order of their slots
pub record AreValues (named : List ℕ) (cells : List (ℕ × ℤ)) (values : List Slotted) : Type 0 where
  pub moved : IsPermutation (slotted named cells) values
  pub up : IsNonDecreasingBy (λ v. v.slot) values

pub are-values : (named : List ℕ) (cells : List (ℕ × ℤ)) (filled sorted values : List Slotted) → filled ≡ slotted named cells
    → IsPermutation filled sorted → IsNonDecreasingBy (λ v. v.slot) sorted → values ≡ sorted → AreValues named cells values
are-values named cells filled sorted values is moved up same = subst (AreValues named cells) (sym same)
    (record { moved = subst (λ xs. IsPermutation xs sorted) is moved; up = up })

pub each-value : (named : List ℕ) (cells : List (ℕ × ℤ)) (values : List Slotted) → AreValues named cells values
    → AllByRecursion (λ v. v.slot < length named) values
each-value named cells values are = each-moved (λ v. v.slot < length named) (slotted named cells) values are.moved (each-slot named cells)

pub size-values : (named : List ℕ) (cells : List (ℕ × ℤ)) (values : List Slotted) → Apart named → AreValues named cells values
    → size_in values ≡ later_size named cells
size-values named cells values apart are =
    sum_by-IsPermutation (λ v. unsigned_abs v.value) (slotted named cells) values are.moved ∙ size-slotted named cells apart

one-most : (b : Bool) → cond b 1 0 ≤ 1
one-most true = omega arith
one-most false = omega arith

Rising-values : (named : List ℕ) (cells : List (ℕ × ℤ)) (values : List Slotted) → Apart named → Ascend (items_in cells)
    → AreValues named cells values → Rising values
Rising-values named cells values apart up are =
    Rising-from (length named) values (each-value named cells values are) are.up
    (λ slot low.
    let s : StandsAt named (named_at named slot) slot = stands-at named (named_at named slot) slot low refl in
    let moved = sum_by-IsPermutation (at_slot slot (λ v. 1)) (slotted named cells) values are.moved in
    let once = sum-at_slot named (named_at named slot) slot (λ v. 1) cells apart s up in
    omega (arith, moved, once, one-most (has (named_at named slot) cells)))

held-part : (b : Bool) (own gain gain' : ℤ) → gain ≡ gain' → pos (cond b (part (own +ℤ gain)) 0) ≡ cond b (positive_part (own +ℤ gain')) (pos 0)
held-part true own gain gain' e = part-is (own +ℤ gain) ∙ ap (λ g. positive_part (own +ℤ g)) e
held-part false own gain gain' e = refl

-- what the values of a record add to a slot's bound is the share of its item
pub gained-share : (named : List ℕ) (place : PlaceOf) (values : List Slotted) (slot : ℕ) → Apart named → Rises place
    → AreValues named place.0 values → slot < length named → pos (gained place.1 slot values) ≡ share_at named place slot
unfolding gain_after
gained-share named place values slot apart up are low =
    let x = named_at named slot in
    let own = place.1 in
    let cells = place.0 in
    let raw = slotted named cells in
    let s : StandsAt named x slot = stands-at named x slot low refl in
    let later = after-drop named x slot 0 apart s (omega arith) in
    let whole : gained own slot values ≡ sum_by (weight own (gain_after values) slot) values =
    gained-weight own slot values (Rising-values named cells values apart up are) in
    let back = sum_by-IsPermutation (weight own (gain_after values) slot) raw values are.moved in
    let gain = gain_after values (slot + 1) in
    let gains : pos gain ≡ later_gain (after x named) cells =
    ap pos (sum_by-IsPermutation (gain_from (slot + 1)) raw values are.moved)
    ∙ (gain-slotted named (slot + 1) cells apart ∙ sym (ap (λ ys. later_gain ys cells) later)) in
    let one : sum_by (weight own (gain_after values) slot) raw ≡ sum_by (at_slot slot (λ v. part ((own +ℤ v) +ℤ pos gain))) raw =
    (λ j. sum_by (λ v. weight-at own (gain_after values) slot v j) raw) in
    let at = sum-at_slot named x slot (λ v. part ((own +ℤ v) +ℤ pos gain)) cells apart s up in
    ap pos (whole ∙ (back ∙ (one ∙ at)))
    ∙ held-part (has x cells) (own +ℤ value_of x cells) (pos gain) (later_gain (after x named) cells) gains

part-size : (b : Bool) (a v g : ℤ) (n : ℕ) → unsigned_abs a + (unsigned_abs v + unsigned_abs g) ≤ n
    → unsigned_abs (cond b (positive_part ((a +ℤ v) +ℤ g)) (pos 0)) ≤ n
part-size true a v g n room = omega (arith, ints, positive_part-within ((a +ℤ v) +ℤ g), room)
part-size false a v g n room = omega arith

pub share-within : (named : List ℕ) (place : PlaceOf) (slot : ℕ) → Apart named → IsRoomy named place → slot < length named
    → unsigned_abs (share_at named place slot) ≤ absolute_of place.0
share-within named place slot apart roomy low =
    let x = named_at named slot in
    let s : StandsAt named x slot = stands-at named x slot low refl in
    let stands : Stands named x (after x named) = record { apart = apart; member = Member-drop named x slot 0 s (omega arith); after = refl } in
    part-size (has x place.0) place.1 (value_of x place.0) (later_gain (after x named) place.0) (absolute_of place.0)
    (room-share x named (after x named) place roomy stands)

pub shares-within : (named : List ℕ) (places : List PlaceOf) (slot : ℕ) → Apart named → AllByRecursion (IsRoomy named) places → slot < length named
    → unsigned_abs (shares_at named places slot) ≤ sum_by (λ place. absolute_of place.0) places
shares-within named [] slot apart each low = omega arith
shares-within named (place ∷ places) slot apart each low = omega (
  arith,
  ints,
  sum_by-cons (λ (p : PlaceOf). absolute_of p.0) place places,
  share-within named place slot apart each.0 low,
  shares-within named places slot apart each.1 low,
)
