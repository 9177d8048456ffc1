-- Lists in which a number of each element falls.
use Rattle.std.proofs.Common.{◌≡◌, ℕ, zero, suc, ◌<◌, ◌≤◌, true, false, Bool, ℤ, ◌≤ℤ◌, List, [], ◌∷◌, length, get_or, drop, take, inl, inr, ap, ◌∙◌, subst, arith}
use Rattle.std.specs.declared.cmp.Ordering.TheVariants.{Less}
use Rattle.std.specs.Cmp.{int_cmp_is, IsStrictWeakOrder}
use Rattle.std.specs.List.{AllByRecursion}
use Rattle.std.specs.List.Sorted.{IsSortedBy}
use Rattle.std.specs.Ordering.{int_cmp, is_lt, flip_args}
use Rattle.std.proofs.lemmas.Cmp.{back_total, int_cmp_total}
use Rattle.std.proofs.lemmas.Int.{ints, by_lt_z}
use Rattle.std.proofs.lemmas.List.Sorted.{ranks_by, sorted_far}
use Rattle.hu_kind.specs.Order.{FallBy}
use Rattle.hu_kind.proofs.lemmas.Each.{each-take}
use Rattle.hu_kind.proofs.lemmas.Members.{Member}
use Rattle.hu_kind.proofs.lemmas.Occurring.{at_member}

module _ {A : Type 0} (value : A → ℤ) where
  -- whether one stands before another: its number is greater
  abbrev pub stands_before : A → A → Bool
  stands_before a b = is_lt (flip_args int_cmp (value a) (value b))

  pub stands_before_order : IsStrictWeakOrder stands_before
  stands_before_order = ranks_by (back_total int_cmp_total) value

  not_before : (a b : A) → stands_before b a ≡ false → value b ≤ℤ value a
  not_before a b h = by_lt_z (value a) (value b)
      (λ less. absurd (let is : Less ≡ int_cmp (value a) (value b) = int_cmp_is (value a) (value b) Less less in let yes : true ≡ false = ap is_lt is ∙ h in cc))
      (λ le. le)

  falls_to : (bound : ℤ) (xs : List A) → ((k : ℕ) (d : A) → k < length xs → value (get_or xs k d) ≤ℤ bound) → AllByRecursion (λ later. value later ≤ℤ bound) xs
  falls_to bound [] each = tt
  falls_to bound (x ∷ xs) each = (each 0 x (omega arith), falls_to bound xs (λ k d within. each (suc k) d (omega arith)))

  fall-far : (xs : List A) → ((i j : ℕ) (d : A) → i ≤ j → j < length xs → value (get_or xs j d) ≤ℤ value (get_or xs i d)) → FallBy value xs
  fall-far [] far = tt
  fall-far (x ∷ xs) far = (
    falls_to (value x) xs (λ k d within. far 0 (suc k) d (omega arith) (omega arith)),
    fall-far xs (λ i j d upto within. far (suc i) (suc j) d (omega arith) (omega arith)),
  )

  pub fall-sorted : (xs : List A) → IsSortedBy stands_before xs → FallBy value xs
  fall-sorted xs up =
      fall-far xs (λ i j d upto within. not_before (get_or xs i d) (get_or xs j d)
      (sorted_far stands_before stands_before_order xs up i j d upto within))

  -- a later one is no greater
  pub fall-later : (xs : List A) (i : ℕ) (d x : A) → FallBy value xs → Member x (drop i xs) → value x ≤ℤ value (get_or xs i d)
  fall-later [] zero d x fall m = absurd m
  fall-later [] (suc i) d x fall m = absurd m
  fall-later (y ∷ ys) zero d x fall (inl e) = subst (λ other. value other ≤ℤ value y) e (omega (arith, ints))
  fall-later (y ∷ ys) zero d x fall (inr m) = at_member (λ later. value later ≤ℤ value y) x ys fall.0 m
  fall-later (y ∷ ys) (suc i) d x fall m = fall-later ys i d x fall.1 m

  -- the first of them fall
  pub fall-take : (xs : List A) (n : ℕ) → FallBy value xs → FallBy value (take n xs)
  fall-take xs zero fall = tt
  fall-take [] (suc n) fall = tt
  fall-take (x ∷ xs) (suc n) fall = (each-take (λ later. value later ≤ℤ value x) n xs fall.0, fall-take xs n fall.1)
