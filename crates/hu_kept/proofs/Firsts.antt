-- Which elements are among the first k of a list in order: those before which fewer than k others stand.
use Rattle.std.proofs.Common.{◌≡◌, ◌∙◌, ℕ, zero, suc, ◌+◌, ◌<◌, ◌≤◌, Bool, true, false, cond, List, [], ◌∷◌, take, refl}
use Rattle.std.proofs.Common.{sym, ap, inl, inr, arith, Ordering, Less, Equal, Greater}
use Rattle.std.specs.List.{AllByRecursion, count_by}
use Rattle.std.specs.List.Sorted.{IsStrictlySortedBy}
use Rattle.std.specs.Ordering.{is_lt}
use Rattle.std.specs.Cmp.{IsTotalOrder}
use Rattle.std.proofs.lemmas.Cmp.{tied_itself}
use Rattle.std.proofs.lemmas.List.Sums.{sum_by-cons}
use Rattle.hu_kind.proofs.lemmas.Members.{Member}
use Rattle.hu_kind.proofs.lemmas.Occurring.{at_member}

-- whether an element comes before another
abbrev pub before : {A : Type 0} → (A → A → Ordering) → A → A → Bool
before cmp x y = is_lt (cmp y x)

count-yes : {A : Type 0} (p : A → Bool) (y : A) (ys : List A) → p y ≡ true → count_by p (y ∷ ys) ≡ suc (count_by p ys)
count-yes p y ys h = let one : ◌≡◌ {A = ℕ} (cond (p y) 1 0) 1 = rw h refl in omega (arith, sum_by-cons (λ z. cond (p z) 1 0) y ys, one)

count-no : {A : Type 0} (p : A → Bool) (y : A) (ys : List A) → p y ≡ false → count_by p (y ∷ ys) ≡ count_by p ys
count-no p y ys h = let none : ◌≡◌ {A = ℕ} (cond (p y) 1 0) 0 = rw h refl in omega (arith, sum_by-cons (λ z. cond (p z) 1 0) y ys, none)

module _ {A : Type 0} (cmp : A → A → Ordering) (o : IsTotalOrder cmp) where
  -- none comes before one that is below them all
  count-above : (x : A) (ys : List A) → AllByRecursion (λ y. cmp x y ≡ Less) ys → count_by (before cmp x) ys ≡ 0
  count-above x [] all = refl
  count-above x (y ∷ ys) all =
      let later : cmp y x ≡ Greater = o.antisymm y x ∙ rw (all.0) refl in
      count-no (before cmp x) y ys (ap is_lt later) ∙ count-above x ys all.1

  pub count-first : (x : A) (k : ℕ) (ys : List A) → IsStrictlySortedBy cmp ys → Member x (take k ys) → count_by (before cmp x) ys < k
  unfolding IsStrictlySortedBy
  count-first x zero ys up m = absurd m
  count-first x (suc k) [] up m = absurd m
  count-first x (suc k) (y ∷ ys) up (inl e) =
      let tied : cmp y x ≡ Equal = ap (cmp y) (sym e) ∙ tied_itself o y in
      let above = count-above x ys (subst_first y x e up.0) in
      omega (arith, count-no (before cmp x) y ys (ap is_lt tied), above)
    where
      subst_first : (y x : A) → y ≡ x → AllByRecursion (λ z. cmp y z ≡ Less) ys → AllByRecursion (λ z. cmp x z ≡ Less) ys
      subst_first y x e all = Rattle.std.proofs.Common.subst (λ w. AllByRecursion (λ z. cmp w z ≡ Less) ys) e all
  count-first x (suc k) (y ∷ ys) up (inr m) =
      let ih = count-first x k ys up.1 m in
      let more = count-le (before cmp x) y ys in
      omega (arith, ih, more)
    where
      count-le : (p : A → Bool) (y : A) (ys : List A) → count_by p (y ∷ ys) ≤ suc (count_by p ys)
      count-le p y ys = by (p y) refl
        where
          by : (b : Bool) → p y ≡ b → count_by p (y ∷ ys) ≤ suc (count_by p ys)
          by true e = omega (arith, count-yes p y ys e)
          by false e = omega (arith, count-no p y ys e)

  pub first-count : (x : A) (k : ℕ) (ys : List A) → IsStrictlySortedBy cmp ys → Member x ys → count_by (before cmp x) ys < k → Member x (take k ys)
  unfolding IsStrictlySortedBy
  first-count x k [] up m h = absurd m
  first-count x zero (y ∷ ys) up m h = absurd (omega arith)
  first-count x (suc k) (y ∷ ys) up (inl e) h = inl e
  first-count x (suc k) (y ∷ ys) up (inr m) h =
      let below : cmp y x ≡ Less = at_member (λ z. cmp y z ≡ Less) x ys up.0 m in
      inr (first-count x k ys up.1 m (omega (arith, h, count-yes (before cmp x) y ys (ap is_lt below))))
