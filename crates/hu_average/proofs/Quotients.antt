-- Fractions by their quotients and remainders.
use Rattle.std.proofs.Common.{◌≡◌, ℕ, suc, ◌<◌, ◌≤◌, ◌+◌, ◌*◌, ◌/◌, ◌%◌, Bool, true, false, ℤ, pos, negsuc, ◌*ℤ◌, ◌≤ℤ◌}
use Rattle.std.proofs.Common.{◌<ℤ◌, int_le, refl, sym, ap, ◌∙◌, arith}
use Rattle.std.specs.declared.cmp.Ordering.{Ordering}
use Rattle.std.specs.declared.cmp.Ordering.TheVariants.{Less, Equal, Greater}
use Rattle.std.specs.Ordering.{nat_cmp, int_cmp, ordering_then, MatchOrdering}
use Rattle.std.specs.Cmp.{nat_cmp_is, int_cmp_is}
use Rattle.std.specs.Int.RustNames.{int_div}
use Rattle.std.proofs.Math.Nat.{add-mul, mul_assoc, mul_comm, mul-lt-mul_of_pos_right, mul-le-mul_right, le-div_iff_mul-le}
use Rattle.std.proofs.lemmas.Cmp.{ranked}
use Rattle.std.proofs.lemmas.Int.{ints}
use Rattle.std.proofs.lemmas.Nat.{div-add-mod', mod_below}

grown : (q n : ℕ) → suc q * n ≡ q * n + n
grown q n = let e : suc q ≡ 1 + q = omega arith in ap (λ z. z * n) e ∙ add-mul 1 q n ∙ (let f : 1 * n ≡ n = omega arith in omega (arith, f))

-- a smaller quotient makes a smaller fraction
smaller : (u n v m q p r s : ℕ) → 0 < n → 0 < m → q * n + r ≡ u → p * m + s ≡ v → r < n → q < p → u * m < v * n
smaller u n v m q p r s some more a b below less =
    let c : u < suc q * n = let e : suc q * n ≡ q * n + n = grown q n in omega (arith, a, below, e) in
    let d : u * m < (suc q * n) * m = mul-lt-mul_of_pos_right c more in
    let e : (suc q * n) * m ≤ (p * n) * m = mul-le-mul_right m (mul-le-mul_right n (omega arith)) in
    let f : (p * n) * m ≡ (p * m) * n = mul_assoc p n m ∙ ap (λ z. p * z) (mul_comm n m) ∙ sym (mul_assoc p m n) in
    let g : (p * m) * n ≤ v * n = mul-le-mul_right n (omega (arith, b)) in
    omega (arith, d, e, f, g)

-- with equal quotients the remainders tell
split : (u n m q r : ℕ) → q * n + r ≡ u → u * m ≡ (q * n) * m + r * m
split u n m q r a = ap (λ z. z * m) (sym a) ∙ add-mul (q * n) r m

apart : (q n m : ℕ) → (q * n) * m ≡ (q * m) * n
apart q n m = mul_assoc q n m ∙ ap (λ z. q * z) (mul_comm n m) ∙ sym (mul_assoc q m n)

module _ (u n v m : ℕ) (some : 0 < n) (more : 0 < m) where
  by_remainders : (o : Ordering) → u / n ≡ v / m → MatchOrdering o (u % n * m < v % m * n) (u % n * m ≡ v % m * n) (v % m * n < u % n * m)
      → MatchOrdering o (u * m < v * n) (u * m ≡ v * n) (v * n < u * m)
  by_remainders Less e h =
      let x = split u n m (u / n) (u % n) (div-add-mod' u n) in let y = split v m n (v / m) (v % m) (div-add-mod' v m) in
      let z = apart (u / n) n m in let w : (u / n * m) * n ≡ (v / m * m) * n = ap (λ q. (q * m) * n) e in
      omega (arith, x, y, z, w, h)
  by_remainders Equal e h =
      let x = split u n m (u / n) (u % n) (div-add-mod' u n) in let y = split v m n (v / m) (v % m) (div-add-mod' v m) in
      let z = apart (u / n) n m in let w : (u / n * m) * n ≡ (v / m * m) * n = ap (λ q. (q * m) * n) e in
      omega (arith, x, y, z, w, h)
  by_remainders Greater e h =
      let x = split u n m (u / n) (u % n) (div-add-mod' u n) in let y = split v m n (v / m) (v % m) (div-add-mod' v m) in
      let z = apart (u / n) n m in let w : (u / n * m) * n ≡ (v / m * m) * n = ap (λ q. (q * m) * n) e in
      omega (arith, x, y, z, w, h)

  by_quotients : (o p : Ordering) → MatchOrdering o (u / n < v / m) (u / n ≡ v / m) (v / m < u / n)
      → MatchOrdering p (u % n * m < v % m * n) (u % n * m ≡ v % m * n) (v % m * n < u % n * m)
      → MatchOrdering (ordering_then o p) (u * m < v * n) (u * m ≡ v * n) (v * n < u * m)
  by_quotients Less p h k = smaller u n v m (u / n) (v / m) (u % n) (v % m) some more (div-add-mod' u n) (div-add-mod' v m) (mod_below u n some) h
  by_quotients Equal p h k = by_remainders p h k
  by_quotients Greater p h k = smaller v m u n (v / m) (u / n) (v % m) (u % n) more some (div-add-mod' v m) (div-add-mod' u n) (mod_below v m more) h

  pub quotients-first : ordering_then (nat_cmp (u / n) (v / m)) (nat_cmp (u % n * m) (v % m * n)) ≡ nat_cmp (u * m) (v * n)
  quotients-first = nat_cmp_is (u * m) (v * n) (ordering_then (nat_cmp (u / n) (v / m)) (nat_cmp (u % n * m) (v % m * n)))
      (by_quotients (nat_cmp (u / n) (v / m)) (nat_cmp (u % n * m) (v % m * n)) (ranked (u / n) (v / m) (nat_cmp (u / n) (v / m)) refl)
      (ranked (u % n * m) (v % m * n) (nat_cmp (u % n * m) (v % m * n)) refl))

-- a quotient is at least a number where the dividend is at least its product
quot-le : (u l : ℤ) (n : ℕ) → 0 < n → pos 1 ≤ℤ l → (l ≤ℤ int_div u (pos n) → (l *ℤ pos n) ≤ℤ u) × ((l *ℤ pos n) ≤ℤ u → l ≤ℤ int_div u (pos n))
quot-le (pos u) (pos l) n some least =
    let both = le-div_iff_mul-le {x = l} {y = u} some in
    ((λ h. let k = both.0 (omega (arith, ints, h)) in omega (arith, ints, k)), (λ h. let k = both.1 (omega (arith, ints, h)) in omega (arith, ints, k)))
quot-le (negsuc u) (pos l) n some least = ((λ h. absurd (omega (arith, ints, h, least))), (λ h. absurd (omega (arith, ints, h))))
quot-le u (negsuc l) n some least = absurd (omega (arith, ints, least))

same_test : (a b c d : ℤ) → (a ≤ℤ b → c ≤ℤ d) × (c ≤ℤ d → a ≤ℤ b) → int_le a b ≡ int_le c d
same_test a b c d both = by (int_le a b) (int_le c d) refl refl
  where
    by : (s t : Bool) → int_le a b ≡ s → int_le c d ≡ t → s ≡ t
    by true true h k = refl
    by true false h k = let low : a ≤ℤ b = grind (arith, ints) in let up = both.0 low in absurd (grind (arith, ints))
    by false true h k = let low : c ≤ℤ d = grind (arith, ints) in let up = both.1 low in absurd (grind (arith, ints))
    by false false h k = refl

pub quot-reaches : (u l : ℤ) (n : ℕ) → 0 < n → pos 1 ≤ℤ l → int_le l (int_div u (pos n)) ≡ int_le (l *ℤ pos n) u
quot-reaches u l n some least = same_test l (int_div u (pos n)) (l *ℤ pos n) u (quot-le u l n some least)

same_cmp : (p q : ℕ) → nat_cmp p q ≡ int_cmp (pos p) (pos q)
same_cmp p q = int_cmp_is (pos p) (pos q) (nat_cmp p q) (by (nat_cmp p q) (ranked p q (nat_cmp p q) refl))
  where
    by : (o : Ordering) → MatchOrdering o (p < q) (p ≡ q) (q < p) → MatchOrdering o (pos p <ℤ pos q) (pos p ≡ pos q) (pos q <ℤ pos p)
    by Less h = omega (arith, ints, h)
    by Equal h = ap pos h
    by Greater h = omega (arith, ints, h)
