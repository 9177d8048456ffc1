-- Branches: children with places of their own, in the order of their falling bounds.
use Rattle.std.proofs.Common.{◌≡◌, ℕ, ◌+◌, ◌<◌, Bool, true, false, ℤ, ◌≤ℤ◌, ◌<ℤ◌, int_le, List, [], ◌∷◌, length, get_or, take}
use Rattle.std.proofs.Common.{sym, subst, inl, inr, arith, Contains, IsPermutation}
use Rattle.std.specs.List.{AllByRecursion}
use Rattle.std.proofs.lemmas.Int.{ints}
use Rattle.std.proofs.lemmas.List.Elements.{Contains-append_left, Contains-push, Contains-push_cases}
use Rattle.std.proofs.lemmas.List.Sorted.{Contains-permutation, IsPermutation-sym}
use Rattle.hu_kind.specs.Sequence.{sequence_support, sequence_utility}
use Rattle.hu_kind.proofs.lemmas.Members.{Member}
use Rattle.hu_kind.proofs.lemmas.Occurring.{at_member}
use Rattle.hu_collect.proofs.lemmas.Searching.{empty-contains}
use Rattle.hu_chain.specs.Grown.{IsGrownFrom}
use Rattle.hu_span.specs.declared.child.Branch.{Branch}
use Rattle.hu_span.specs.declared.child.Child.{Child}
use Rattle.hu_span.specs.declared.step.Step.{Step}
use Rattle.std.proofs.Common.{◌++◌, ◌⊎◌, Result, Ok, Err, IfOk}
use Rattle.std.specs.declared.vec.Vec.{Vec}
use Rattle.std.specs.declared.alloc.Global.{Global}
use Rattle.hu_chain.specs.declared.chain.Growth.{Growth}
use Rattle.hu_kind.proofs.lemmas.Members.{Contains-from_member, Member-append_left, Member-append_right, Member-from_contains}
use Rattle.hu_kind.proofs.lemmas.Each.{each-append, each-push, each-weaker}
use Rattle.hu_span.specs.declared.trail.Held.{Held}
use Rattle.hu_span.specs.Branch.{AreBranchesBy, AreCopies, HasPlaces, IsBranch, IsCopy, IsPart, IsPushed}
use Rattle.hu_span.specs.Child.{stepped, AreChildrenBy, ArePlaces, IsChild}
use Rattle.hu_span.specs.Gather.{MayTake}
use Rattle.hu_span.specs.Growing.{Records}
use Rattle.hu_span.proofs.Fronts.{contains-before, contains-here, contains-cases}

-- what is true of a child is true of its branch
pub branch-of : (records : Records) (keep : ℕ → Bool) (pattern : List (List ℕ)) (child : Child) (branch : Branch) → IsChild records keep pattern child
    → IsCopy records pattern child branch → IsBranch records keep pattern branch
branch-of records keep pattern child branch is copy = record {
  may = subst (λ (s : Step). MayTake s.growth pattern s.item.0) (sym copy.step) is.may;
  kept = subst (λ (s : Step). keep s.item.0 ≡ true) (sym copy.step) is.kept;
  places = subst (λ (s : Step). ArePlaces records (stepped pattern s) s.item.0 branch.held.marks.items) (sym copy.step) copy.places;
  occurs = subst (λ (s : Step). 0 < sequence_support records (stepped pattern s)) (sym copy.step) is.occurs;
  bound = λ other from. subst (λ b. sequence_utility records other ≤ℤ b) (sym copy.bound)
      (is.bound other (subst (λ (s : Step). IsGrownFrom (stepped pattern s) other) copy.step from));
}

-- the marks of each are those of an item
pub parts-next : (held : Held) (kept new : List Branch) (child : Child) (is_kept : Bool) → AllByRecursion (IsPart held) kept
    → IsPushed is_kept held kept new child → AllByRecursion (IsPart held) new
parts-next held kept new child true all pushed =
    let made = pushed.2 in
    subst (AllByRecursion (IsPart held)) (sym pushed.1) (each-push (IsPart held) kept pushed.0 all (record {
      item = child.step.item.0;
      marks = made.marks;
      spans = made.spans;
    }))
parts-next held kept new child false all pushed = subst (AllByRecursion (IsPart held)) (sym pushed) all

-- and stay so in another order
pub parts-among : (into after : Held) (kept later sorted : List Branch) (branch : Branch) → AllByRecursion (IsPart into) kept
    → AllByRecursion (IsPart after) later → IsPermutation (kept ++ later) sorted → Contains sorted branch → IsPart into branch ⊎ IsPart after branch
parts-among into after kept later sorted branch one two same among =
    let P : Branch → Type 0 = λ b. IsPart into b ⊎ IsPart after b in
    let all = each-append P kept later (each-weaker (IsPart into) P kept (λ b is. inl is) one) (each-weaker (IsPart after) P later (λ b is. inr is) two) in
    let here = Contains-permutation sorted (kept ++ later) branch (IsPermutation-sym (kept ++ later) sorted same) among in
    at_member P branch (kept ++ later) all (Member-from_contains branch (kept ++ later) here)

-- ---- branches, child by child

module _ (records : Records) (pattern : List (List ℕ)) where
  pub copies-none : (floor : ℤ) → AreCopies records pattern floor [] []
  copies-none floor = record { each = λ branch c. absurd (empty-contains branch c); all = λ child c. absurd (empty-contains child c) }

  pub copies-next : (floor : ℤ) (held : Held) (children : List Child) (kept new : List Branch) (i : ℕ) (d : Child) (is_kept : Bool)
      → i < length children → AreCopies records pattern floor (take i children) kept → is_kept ≡ int_le floor (get_or children i d).bound
      → HasPlaces records pattern held.marks.items (get_or children i d)
      → IsPushed is_kept held kept new (get_or children i d) → AreCopies records pattern floor (take (i + 1) children) new
  copies-next floor held children kept new i d true within so_far reaches places pushed =
      let made = pushed.2 in
      let copy : IsCopy records pattern (get_or children i d) pushed.0 = record {
        step = made.step;
        places = subst (ArePlaces records (stepped pattern (get_or children i d).step) (get_or children i d).step.item.0) (sym made.marks) places;
        bound = made.bound;
      } in
      record {
        each = λ branch c. elim (Contains-push_cases kept pushed.0 branch (subst (λ bs. Contains bs branch) pushed.1 c)) [
          | inl before ↦ let from = so_far.each branch before in (from.0, contains-before children i d within from.0 from.1, from.2)
          | inr same ↦ (get_or children i d, contains-here children i d within, subst (IsCopy records pattern (get_or children i d)) same copy)
        ];
        all = λ child c. elim (contains-cases children i d within child c) [
          | inl before ↦ elim (so_far.all child before) [
            | inl has ↦ inl (record {
              branch = has.branch;
              among = subst (λ bs. Contains bs has.branch) (sym pushed.1) (Contains-append_left kept (pushed.0 ∷ []) has.branch has.among);
              is = has.is;
            })
            | inr low ↦ inr low
          ]
          | inr same ↦ inl (record {
            branch = pushed.0;
            among = subst (λ bs. Contains bs pushed.0) (sym pushed.1) (Contains-push kept pushed.0);
            is = subst (λ (other : Child). IsCopy records pattern other pushed.0) same copy;
          })
        ];
      }
  copies-next floor held children kept new i d false within so_far reaches places pushed = record {
    each = λ branch c.
        let from = so_far.each branch (subst (λ bs. Contains bs branch) pushed c) in
        (from.0, contains-before children i d within from.0 from.1, from.2);
    all = λ child c. elim (contains-cases children i d within child c) [
      | inl before ↦ elim (so_far.all child before) [
        | inl has ↦ inl (record { branch = has.branch; among = subst (λ bs. Contains bs has.branch) (sym pushed) has.among; is = has.is })
        | inr low ↦ inr low
      ]
      | inr same ↦ inr (subst (λ (other : Child). other.bound <ℤ floor) same (below floor (get_or children i d).bound reaches))
    ];
  }
    where
      below : (a b : ℤ) → false ≡ int_le a b → b <ℤ a
      below a b e = grind (arith, ints)

  pub copies-permuted : (floor : ℤ) (children : List Child) (kept new : List Branch) → AreCopies records pattern floor children kept
      → IsPermutation kept new → AreCopies records pattern floor children new
  copies-permuted floor children kept new copies same = record {
    each = λ branch c. copies.each branch (Contains-permutation new kept branch (IsPermutation-sym kept new same) c);
    all = λ child c. elim (copies.all child c) [
      | inl has ↦ inl (record { branch = has.branch; among = Contains-permutation kept new has.branch same has.among; is = has.is })
      | inr low ↦ inr low
    ];
  }

  -- branches of two kinds of growth
  pub copies-both : (floor : ℤ) (first later : List Child) (kept more : List Branch) → AreCopies records pattern floor first kept
      → AreCopies records pattern floor later more → AreCopies records pattern floor (first ++ later) (kept ++ more)
  copies-both floor first later kept more one two = record {
    each = λ branch c. elim (Member-cases branch kept more (Member-from_contains branch (kept ++ more) c)) [
      | inl m ↦
          let from = one.each branch (Contains-from_member branch kept m) in
          (from.0, Contains-from_member from.0 (first ++ later) (Member-append_left from.0 first later (Member-from_contains from.0 first from.1)), from.2)
      | inr m ↦
          let from = two.each branch (Contains-from_member branch more m) in
          (from.0, Contains-from_member from.0 (first ++ later) (Member-append_right from.0 first later (Member-from_contains from.0 later from.1)), from.2)
    ];
    all = λ child c. elim (Member-cases child first later (Member-from_contains child (first ++ later) c)) [
      | inl m ↦ elim (one.all child (Contains-from_member child first m)) [
        | inl has ↦ inl (record {
          branch = has.branch;
          among = Contains-from_member has.branch (kept ++ more) (Member-append_left has.branch kept more (Member-from_contains has.branch kept has.among));
          is = has.is;
        })
        | inr low ↦ inr low
      ]
      | inr m ↦ elim (two.all child (Contains-from_member child later m)) [
        | inl has ↦ inl (record {
          branch = has.branch;
          among = Contains-from_member has.branch (kept ++ more) (Member-append_right has.branch kept more (Member-from_contains has.branch more has.among));
          is = has.is;
        })
        | inr low ↦ inr low
      ]
    ];
  }
    where
      Member-cases : {A : Type 0} (x : A) (xs ys : List A) → Member x (xs ++ ys) → Member x xs ⊎ Member x ys
      Member-cases x [] ys m = inr m
      Member-cases x (z ∷ xs) ys (inl e) = inl (inl e)
      Member-cases x (z ∷ xs) ys (inr m) = elim (Member-cases x xs ys m) [ inl here ↦ inl (inr here) | inr later ↦ inr later ]

-- those of a kind of growth
pub branches-by : {E : Type 0} (records : Records) (keep : ℕ → Bool) (pattern : List (List ℕ)) (growth : Growth) (floor : ℤ) (all : List Child)
    (result : Result (Vec Branch Global) E) → AreChildrenBy records keep pattern growth all
    → IfOk result (λ kept. AreCopies records pattern floor all kept.items)
    → IfOk result (λ kept. AreBranchesBy records keep pattern growth floor kept.items)
branches-by records keep pattern growth floor all (Ok kept) are copies = record { all = all; are = are; copies = copies }
branches-by records keep pattern growth floor all (Err e) are copies = tt
