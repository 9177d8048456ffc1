-- Lists by a number of each element part at a number: those before it, those at it, those after it.
use Rattle.std.proofs.Common.{◌≡◌, ◌∙◌, ℕ, zero, suc, ◌<◌, ◌≤◌, ◌-◌, Bool, true, false, ◌&&◌, not, eqb, List, [], ◌∷◌}
use Rattle.std.proofs.Common.{length, take, drop, refl, sym, ap, arith, filter, nat_cmp, inl, inr, ◌⊎◌}
use Rattle.std.specs.List.Sorted.{IsPartitionPoint, IsStableByKey, ties}
use Rattle.std.specs.Ordering.{is_lt}
use Rattle.std.proofs.lemmas.Bool.{cases_lt}
use Rattle.std.proofs.lemmas.Bool.Decides.{nat_tests}

module _ {X : Type 0} (key : X → ℕ) where
  -- the first a are below a number, the first b are not above it
  pub record Parts (xs : List X) (n a b : ℕ) : Type 0 where
    pub below : IsPartitionPoint (λ (x : X). key x < n) (λ (x : X). n ≤ key x) xs a
    pub upto : IsPartitionPoint (λ (x : X). key x ≤ n) (λ (x : X). n < key x) xs b

  pub parts_in_order : (xs : List X) (n a b : ℕ) → Parts xs n a b → a ≤ length xs → a ≤ b
  parts_in_order [] n a b parts within = omega arith
  parts_in_order (x ∷ xs) n a b parts within = elim (cases_lt b a) [
    | inl less ↦
        let low = parts.below.0 b x (omega arith) less in
        let high = parts.upto.1 b x (omega arith) (omega arith) in
        absurd (omega (arith, low, high))
    | inr more ↦ more
  ]

  rest_below : (x : X) (xs : List X) (n a : ℕ) → IsPartitionPoint (λ (x : X). key x < n) (λ (x : X). n ≤ key x) (x ∷ xs) (suc a)
      → IsPartitionPoint (λ (x : X). key x < n) (λ (x : X). n ≤ key x) xs a
  rest_below x xs n a p = (λ k d low high. p.0 (suc k) d (omega arith) (omega arith), λ k d low high. p.1 (suc k) d (omega arith) (omega arith))

  rest_upto : (x : X) (xs : List X) (n b : ℕ) → IsPartitionPoint (λ (x : X). key x ≤ n) (λ (x : X). n < key x) (x ∷ xs) (suc b)
      → IsPartitionPoint (λ (x : X). key x ≤ n) (λ (x : X). n < key x) xs b
  rest_upto x xs n b p = (λ k d low high. p.0 (suc k) d (omega arith) (omega arith), λ k d low high. p.1 (suc k) d (omega arith) (omega arith))

  ne-above : (n m : ℕ) → n < m → eqb n m ≡ false
  ne-above n m less = grind (arith, nat_tests)

  ne-below : (n m : ℕ) → m < n → eqb n m ≡ false
  ne-below n m less = grind (arith, nat_tests)

  same-at : (n m : ℕ) → n ≡ m → eqb n m ≡ true
  same-at n m same = grind (arith, nat_tests)

  -- those between are those at the number
  pub parts_at : (xs : List X) (n a b : ℕ) → Parts xs n a b → b ≤ length xs → take (b - a) (drop a xs) ≡ filter (λ x. eqb n (key x)) xs
  parts_at [] n zero zero parts within = refl
  parts_at [] n (suc a) zero parts within = let none : 0 - suc a ≡ 0 = omega arith in rw none refl
  parts_at [] n a (suc b) parts within = absurd (omega arith)
  parts_at (x ∷ xs) n zero zero parts within =
      let high = parts.upto.1 0 x (omega arith) (omega arith) in
      let rest : Parts xs n 0 0 = record {
        below = (λ k d low high. absurd (omega arith), λ k d low high. parts.below.1 (suc k) d (omega arith) (omega arith));
        upto = (λ k d low high. absurd (omega arith), λ k d low high. parts.upto.1 (suc k) d (omega arith) (omega arith));
      } in
      rw (ne-above n (key x) high) (parts_at xs n 0 0 rest (omega arith))
  parts_at (x ∷ xs) n zero (suc b) parts within =
      let low = parts.below.1 0 x (omega arith) (omega arith) in
      let high = parts.upto.0 0 x (omega arith) (omega arith) in
      let yes = same-at n (key x) (omega (arith, low, high)) in
      let rest : Parts xs n 0 b = record {
        below = (λ k d low high. absurd (omega arith), λ k d low high. parts.below.1 (suc k) d (omega arith) (omega arith));
        upto = rest_upto x xs n b parts.upto;
      } in
      let less : suc b - 0 ≡ suc (b - 0) = omega arith in
      rw (yes, less) (ap (λ ys. x ∷ ys) (parts_at xs n 0 b rest (omega arith)))
  parts_at (x ∷ xs) n (suc a) zero parts within =
      let low = parts.below.0 0 x (omega arith) (omega arith) in
      let high = parts.upto.1 0 x (omega arith) (omega arith) in
      absurd (omega (arith, low, high))
  parts_at (x ∷ xs) n (suc a) (suc b) parts within =
      let low = parts.below.0 0 x (omega arith) (omega arith) in
      let less : suc b - suc a ≡ b - a = omega arith in
      let rest : Parts xs n a b = record { below = rest_below x xs n a parts.below; upto = rest_upto x xs n b parts.upto } in
      rw (ne-below n (key x) low, less) (parts_at xs n a b rest (omega arith))

  filter-same : (p q : X → Bool) → ((x : X) → p x ≡ q x) → (xs : List X) → filter p xs ≡ filter q xs
  filter-same p q same [] = refl
  filter-same p q same (x ∷ xs) = rw (same x, filter-same p q same xs) refl

  ties-number : (n m : ℕ) → (not (is_lt (nat_cmp n m)) && not (is_lt (nat_cmp m n))) ≡ eqb n m
  ties-number n m = grind (arith, nat_tests)

  -- an element at a number, or none
  found : (n : ℕ) (xs : List X) → ((x : X) × (eqb n (key x) ≡ true)) ⊎ (filter (λ x. eqb n (key x)) xs ≡ [])
  found n [] = inr refl
  found n (x ∷ xs) = by (eqb n (key x)) refl (found n xs)
    where
      by : (b : Bool) → eqb n (key x) ≡ b → ((y : X) × (eqb n (key y) ≡ true)) ⊎ (filter (λ y. eqb n (key y)) xs ≡ [])
          → ((y : X) × (eqb n (key y) ≡ true)) ⊎ (filter (λ y. eqb n (key y)) (x ∷ xs) ≡ [])
      by true is rest = inl (x, is)
      by false is (inl later) = inl later
      by false is (inr none) = inr (rw is none)

  -- a stable sort keeps the elements at a number as they are
  pub filter-stable : (xs ys : List X) → IsStableByKey key nat_cmp xs ys → (n : ℕ) → filter (λ x. eqb n (key x)) ys ≡ filter (λ x. eqb n (key x)) xs
  filter-stable xs ys stable n = elim (found n xs) [
    | inl like ↦ alike like
    | inr none ↦ elim (found n ys) [ inl like ↦ alike like | inr gone ↦ gone ∙ sym none ]
  ]
    where
      alike : (x : X) × (eqb n (key x) ≡ true) → filter (λ x. eqb n (key x)) ys ≡ filter (λ x. eqb n (key x)) xs
      alike (x, is) =
          let same : n ≡ key x = grind (arith, nat_tests) in
          let at = λ (y : X). ties-number (key x) (key y) ∙ ap (λ m. eqb m (key y)) (sym same) in
          sym (filter-same (ties (λ (a b : X). is_lt (nat_cmp (key a) (key b))) x) (λ y. eqb n (key y)) at ys)
          ∙ stable x
          ∙ filter-same (ties (λ (a b : X). is_lt (nat_cmp (key a) (key b))) x) (λ y. eqb n (key y)) at xs
