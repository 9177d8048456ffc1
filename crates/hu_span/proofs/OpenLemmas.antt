-- The items that a node keeps, and what is known of rows, one by one.
use Rattle.std.proofs.Common.{◌≡◌, ℕ, ◌+◌, ◌<◌, Bool, true, false, eqb, ℤ, ◌≤ℤ◌, List, [], ◌∷◌, ◌++◌, map, length, get_or, set, take, refl, sym}
use Rattle.std.proofs.Common.{ap, ◌∙◌, subst, ◌⊎◌, inl, inr, arith, Contains, get_or-set_same, get_or-set_other, ◌≢◌}
use Rattle.std.specs.List.{AllByRecursion}
use Rattle.std.proofs.lemmas.Bool.{eqb-true, eqb-false}
use Rattle.std.proofs.lemmas.Int.{ints}
use Rattle.std.proofs.lemmas.List.{map-append, take_more}
use Rattle.hu_kind.specs.declared.item.Item.{Item}
use Rattle.hu_kind.proofs.lemmas.Each.{each-push, each-weaker}
use Rattle.hu_kind.proofs.lemmas.Members.{Member-append_left, Member-append_right, Member-map, Member-from_map, Contains-from_member, Member-from_contains}
use Rattle.hu_kind.proofs.lemmas.Occurring.{by_members}
use Rattle.hu_chain.specs.Bound.{reach}
use Rattle.hu_span.specs.declared.child.Child.{Child}
use Rattle.hu_span.specs.declared.mark.Mark.{Mark}
use Rattle.hu_span.specs.declared.step.Step.{Step}
use Rattle.hu_span.specs.Cut.{at_row, AreBelow, AreOpen, IsLow}
use Rattle.hu_span.specs.Kept.{keeps}

-- ---- rows

raised : (reaches : List ℤ) (row k : ℕ) (n : ℤ) → row < length reaches → at_row reaches row ≤ℤ n → at_row reaches k ≤ℤ at_row (set reaches row n) k
raised reaches row k n within more = by (eqb row k) refl
  where
    by : (b : Bool) → eqb row k ≡ b → at_row reaches k ≤ℤ at_row (set reaches row n) k
    by true e =
        let here : row ≡ k = eqb-true row k e in
        let now : at_row (set reaches row n) row ≡ n = rw get_or-set_same refl in
        subst (λ j. at_row reaches j ≤ℤ at_row (set reaches row n) j) here (omega (arith, ints, more, now))
    by false e =
        let ne : k ≢ row = λ same. eqb-false row k e (sym same) in
        let now : at_row (set reaches row n) k ≡ at_row reaches k = rw get_or-set_other refl in
        omega (arith, ints, now)

pub set-below : (reaches : List ℤ) (marks : List Mark) (row : ℕ) (n : ℤ) → row < length reaches → at_row reaches row ≤ℤ n → AreBelow reaches marks
    → AreBelow (set reaches row n) marks
set-below reaches [] row n within more all = tt
set-below reaches (mark ∷ marks) row n within more all =
    let up = raised reaches row mark.row n within more in
    (omega (arith, ints, up, all.0), set-below reaches marks row n within more all.1)

pub set-next : (reaches : List ℤ) (marks : List Mark) (i : ℕ) (d : Mark) (n : ℤ) → i < length marks → (get_or marks i d).row < length reaches
    → at_row reaches (get_or marks i d).row ≤ℤ n → reach (get_or marks i d).place ≤ℤ n → AreBelow reaches (take i marks)
    → AreBelow (set reaches (get_or marks i d).row n) (take (i + 1) marks)
set-next reaches marks i d n inside within more high all =
    let mark = get_or marks i d in
    let now : at_row (set reaches mark.row n) mark.row ≡ n = rw get_or-set_same refl in
    let next = set reaches mark.row n in
    subst (AreBelow next) (sym (take_more marks i d inside))
    (each-push (λ (m : Mark). reach m.place ≤ℤ at_row next m.row) (take i marks) mark (set-below reaches (take i marks) mark.row n within more all)
    (omega (arith, ints, now, high)))

-- ---- items

contains-earlier : {A B : Type 0} (f : A → B) (xs : List A) (i : ℕ) (d : A) (y : B) → i < length xs → Contains (map f (take i xs)) y
    → Contains (map f (take (i + 1) xs)) y
contains-earlier f xs i d y within c =
    let split = ap (map f) (take_more xs i d within) ∙ map-append f (take i xs) (get_or xs i d ∷ []) in
    subst (λ ys. Contains ys y) (sym split) (Contains-from_member y (map f (take i xs) ++ f (get_or xs i d) ∷ [])
    (Member-append_left y (map f (take i xs)) (f (get_or xs i d) ∷ []) (Member-from_contains y (map f (take i xs)) c)))

contains-last : {A B : Type 0} (f : A → B) (xs : List A) (i : ℕ) (d : A) → i < length xs → Contains (map f (take (i + 1) xs)) (f (get_or xs i d))
contains-last f xs i d within =
    let split = ap (map f) (take_more xs i d within) ∙ map-append f (take i xs) (get_or xs i d ∷ []) in
    let y = f (get_or xs i d) in
    subst (λ ys. Contains ys y) (sym split) (Contains-from_member y (map f (take i xs) ++ y ∷ [])
    (Member-append_right y (map f (take i xs)) (y ∷ []) (inl refl)))

-- the items of steps and of the first children
pub record AreSoFar (steps : List Step) (children : List Child) (floor : ℤ) (items : List Item) (i : ℕ) : Type 0 where
  pub known : (one : Item) → Contains items one → Contains (map (λ step. step.item) steps) one ⊎ Contains (map (λ child. child.step.item)
      (take i children)) one
  pub own : (one : Item) → Contains (map (λ step. step.item) steps) one → Contains items one
  pub reaching : AllByRecursion (λ child. Contains items child.step.item ⊎ IsLow child.spread floor) (take i children)

pub open-next : (steps : List Step) (children : List Child) (floor : ℤ) (items new : List Item) (i : ℕ) (d : Child) (is_kept : Bool)
    → i < length children → AreSoFar steps children floor items i
    → ((one : Item) → Contains new one → Contains items one ⊎ (one ≡ (get_or children i d).step.item))
    → ((one : Item) → Contains items one → Contains new one) → (is_kept ≡ true → Contains new (get_or children i d).step.item)
    → (is_kept ≡ false → IsLow (get_or children i d).spread floor) → AreSoFar steps children floor new (i + 1)
open-next steps children floor items new i d is_kept within so_far known before kept low =
    let P : Child → Type 0 = λ child. Contains new child.step.item ⊎ IsLow child.spread floor in
    record {
      known = λ one c. elim (known one c) [
        | inl old ↦ elim (so_far.known one old) [
          | inl step ↦ inl step
          | inr child ↦ inr (contains-earlier (λ (c : Child). c.step.item) children i d one within child)
        ]
        | inr same ↦ inr (subst (Contains (map (λ (c : Child). c.step.item) (take (i + 1) children))) (sym same)
            (contains-last (λ (c : Child). c.step.item) children i d within))
      ];
      own = λ one c. before one (so_far.own one c);
      reaching = subst (AllByRecursion P) (sym (take_more children i d within))
          (each-push P (take i children) (get_or children i d)
          (each-weaker (λ child. Contains items child.step.item ⊎ IsLow child.spread floor) P (take i children)
          (λ child o. elim o [ inl c ↦ inl (before child.step.item c) | inr l ↦ inr l ]) so_far.reaching)
          (by is_kept refl));
    }
  where
    by : (b : Bool) → is_kept ≡ b → Contains new (get_or children i d).step.item ⊎ IsLow (get_or children i d).spread floor
    by true e = inl (kept e)
    by false e = inr (low e)

pub open-all : (steps : List Step) (children : List Child) (floor : ℤ) (items : List Item) (i : ℕ) (kept : Bool × List Item)
    → take i children ≡ children → AreSoFar steps children floor items i
    → ((item : ℕ) → keeps kept item ≡ true → (one : Item) × Contains items one × (one.0 ≡ item))
    → ((item : Item) → Contains items item → keeps kept item.0 ≡ true) → AreOpen steps children floor kept
open-all steps children floor items i kept whole so_far known all = record {
  known = λ item is.
      let found = known item is in
      elim (so_far.known found.0 found.1) [
        | inl step ↦
            let from = Member-from_map (λ (s : Step). s.item) found.0 steps (Member-from_contains found.0 (map (λ (s : Step). s.item) steps) step) in
            inl (subst (Contains (map (λ (s : Step). s.item.0) steps)) (ap (λ (x : Item). x.0) from.2 ∙ found.2)
            (Contains-from_member from.0.item.0 (map (λ (s : Step). s.item.0) steps) (Member-map (λ (s : Step). s.item.0) from.0 steps from.1)))
        | inr child ↦
            let seen = subst (λ (cs : List Child). Contains (map (λ (c : Child). c.step.item) cs) found.0) whole child in
            let from = Member-from_map (λ (c : Child). c.step.item) found.0 children (Member-from_contains found.0 (map (λ
            (c : Child). c.step.item) children) seen) in
            inr (subst (Contains (map (λ (c : Child). c.step.item.0) children)) (ap (λ (x : Item). x.0) from.2 ∙ found.2)
            (Contains-from_member from.0.step.item.0 (map (λ (c : Child). c.step.item.0) children) (Member-map (λ
            (c : Child). c.step.item.0) from.0 children from.1)))
      ];
  own = by_members (λ (s : Step). keeps kept s.item.0 ≡ true) steps (λ s m.
      all s.item (so_far.own s.item (Contains-from_member s.item (map (λ (t : Step). t.item) steps) (Member-map (λ (t : Step). t.item) s steps m))));
  reaching = each-weaker (λ child. Contains items child.step.item ⊎ IsLow child.spread floor)
      (λ child. (keeps kept child.step.item.0 ≡ true) ⊎ IsLow child.spread floor) children
      (λ child o. elim o [ inl c ↦ inl (all child.step.item c) | inr l ↦ inr l ])
      (subst (AllByRecursion (λ child. Contains items child.step.item ⊎ IsLow child.spread floor)) whole so_far.reaching);
}
