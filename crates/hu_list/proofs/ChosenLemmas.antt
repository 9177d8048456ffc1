-- The children that are chosen to be entered, and their tails.
use Rattle.std.proofs.Common.{◌≡◌, ℕ, zero, suc, ◌<◌, false, eqb, ℤ, ◌≤ℤ◌, ◌<ℤ◌, List, [], ◌∷◌, length, get_or, take, inl, inr, ◌⊎◌, subst}
use Rattle.std.proofs.Common.{arith, Contains, nat_eq}
use Rattle.std.specs.List.{AllByRecursion, IsDistinct}
use Rattle.std.specs.List.Sorted.{IsPermutation}
use Rattle.std.proofs.lemmas.Int.{ints}
use Rattle.std.proofs.lemmas.List.Sorted.{IsPermutation-map, IsPermutation-sym, Contains-permutation}
use Rattle.std.proofs.lemmas.Map.Keys.{IsDistinct-IsPermutation}
use Rattle.hu_kind.proofs.lemmas.Falling.{fall-take}
use Rattle.hu_kind.proofs.lemmas.Occurring.{at_member, by_members, eqb-flips}
use Rattle.hu_kind.proofs.lemmas.Members.{Member, Member-from_contains, Contains-from_member, Member-take}
use Rattle.hu_search.specs.declared.child.Child.{Child}
use Rattle.hu_search.specs.Children.{Fall, ranks_of}
use Rattle.hu_list.specs.Level.{AreChosen}

-- a child is among the first, or its bound is no greater than that of the next
parts : (floor : ℤ) (children : List Child) (n : ℕ) (child : Child) → Fall children
    → ((d : Child) → n < length children → (get_or children n d).bound <ℤ floor) → Member child children
    → Member child (take n children) ⊎ (child.bound <ℤ floor)
parts floor [] n child fall cut m = absurd m
parts floor (c ∷ cs) zero child fall cut (inl e) = inr (let low = cut c (omega arith) in subst (λ (x : Child). x.bound <ℤ floor) e low)
parts floor (c ∷ cs) zero child fall cut (inr m) =
    let low = cut c (omega arith) in
    let under = at_member (λ (later : Child). later.bound ≤ℤ c.bound) child cs fall.0 m in
    inr (omega (arith, ints, low, under))
parts floor (c ∷ cs) (suc n) child fall cut (inl e) = inl (inl e)
parts floor (c ∷ cs) (suc n) child fall cut (inr m) =
    elim (parts floor cs n child fall.1 (λ d within. cut d (omega arith)) m) [ inl here ↦ inl (inr here) | inr low ↦ inr low ]

distinct-take : (n : ℕ) (xs : List Child) → IsDistinct nat_eq (ranks_of xs) → IsDistinct nat_eq (ranks_of (take n xs))
unfolding IsDistinct
distinct-take zero xs once = tt
distinct-take (suc n) [] once = tt
distinct-take (suc n) (x ∷ xs) once = (front n xs once.0, distinct-take n xs once.1)
  where
    front : (n : ℕ) (cs : List Child) → AllByRecursion (λ y. eqb x.rank y ≡ false) (ranks_of cs)
        → AllByRecursion (λ y. eqb x.rank y ≡ false) (ranks_of (take n cs))
    front zero cs all = tt
    front (suc n) [] all = tt
    front (suc n) (c ∷ cs) all = (all.0, front n cs all.1)

pub chosen-is : (floor : ℤ) (children sorted : List Child) (n : ℕ) → IsPermutation children sorted → Fall sorted → IsDistinct nat_eq (ranks_of children)
    → ((d : Child) → n < length sorted → (get_or sorted n d).bound <ℤ floor) → AreChosen floor children (take n sorted)
chosen-is floor children sorted n same fall once cut = record {
  fall = fall-take (λ (child : Child). child.bound) sorted n fall;
  from = by_members (Contains children) (take n sorted) (λ child m.
      Contains-permutation sorted children child (IsPermutation-sym children sorted same) (Contains-from_member child sorted (Member-take child n sorted m)));
  whole = λ child c. elim (parts floor sorted n child fall cut (Member-from_contains child sorted (Contains-permutation children sorted child same c))) [
    | inl here ↦ inl (Contains-from_member child (take n sorted) here)
    | inr low ↦ inr low
  ];
  once = distinct-take n sorted (IsDistinct-IsPermutation nat_eq eqb-flips (ranks_of children) (ranks_of sorted)
      (IsPermutation-map (λ (child : Child). child.rank) children sorted same) once);
}
