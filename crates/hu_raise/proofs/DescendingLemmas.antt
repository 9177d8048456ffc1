-- Numbers with the greatest first.
use Rattle.std.proofs.Common.{◌≡◌, ℕ, zero, suc, ◌+◌, ◌<◌, Bool, true, false, cond, ℤ, ◌≤ℤ◌, int_le, List, [], ◌∷◌}
use Rattle.std.proofs.Common.{length, get_or, refl, sym, ap, ◌∙◌, subst, arith, count_by, Less}
use Rattle.std.specs.List.{AllByRecursion}
use Rattle.std.specs.List.Sorted.{IsPermutation, IsSortedBy}
use Rattle.std.specs.Ordering.{is_lt, int_cmp}
use Rattle.std.specs.Cmp.{int_cmp_is}
use Rattle.std.specs.Int.Signed.{≤ℤ_refl}
use Rattle.std.proofs.lemmas.Int.{ints, by_lt_z}
use Rattle.std.proofs.lemmas.List.Sums.{sum_by-cons}
use Rattle.std.proofs.lemmas.List.Sorted.{sum_by-IsPermutation}
use Rattle.hu_kind.proofs.lemmas.Occurring.{at_member, counted}
use Rattle.hu_raise.specs.StartFloor.{put, descending}

-- how many numbers reach one
abbrev pub reach_count : ℤ → List ℤ → ℕ
reach_count least xs = count_by (λ x. int_le least x) xs

-- no number is below a later one
abbrev pub Descend : List ℤ → Type 0
Descend [] = Unit {0}
Descend (x ∷ xs) = AllByRecursion (λ y. y ≤ℤ x) xs × Descend xs

reach-cons : (e x : ℤ) (xs : List ℤ) → reach_count e (x ∷ xs) ≡ cond (int_le e x) 1 0 + reach_count e xs
reach-cons e x xs = sum_by-cons (λ y. cond (int_le e y) 1 0) x xs

reached_one : (e x : ℤ) → e ≤ℤ x → ◌≡◌ {A = ℕ} (cond (int_le e x) 1 0) 1
reached_one e x h = grind (arith, ints)

-- ---- putting in

each-put : (P : ℤ → Type 0) (x : ℤ) (ys : List ℤ) → P x → AllByRecursion P ys → AllByRecursion P (put x ys)
each-put P x [] h all = (h, tt)
each-put P x (y ∷ ys) h all = by (int_le y x) (each-put P x ys h all.1)
  where
    by : (b : Bool) → AllByRecursion P (put x ys) → AllByRecursion P (cond b (x ∷ y ∷ ys) (y ∷ put x ys))
    by true ih = (h, all)
    by false ih = (all.0, ih)

lower : (x y : ℤ) (ys : List ℤ) → y ≤ℤ x → AllByRecursion (λ z. z ≤ℤ y) ys → AllByRecursion (λ z. z ≤ℤ x) ys
lower x y [] h all = tt
lower x y (z ∷ zs) h all = let below : z ≤ℤ y = all.0 in (omega (arith, ints), lower x y zs h all.1)

Descend-put : (x : ℤ) (ys : List ℤ) → Descend ys → Descend (put x ys)
Descend-put x [] d = (tt, tt)
Descend-put x (y ∷ ys) d = by (int_le y x) refl (Descend-put x ys d.1)
  where
    by : (b : Bool) → int_le y x ≡ b → Descend (put x ys) → Descend (cond b (x ∷ y ∷ ys) (y ∷ put x ys))
    by true h ih = let below : y ≤ℤ x = grind (arith, ints) in ((below, lower x y ys below d.0), d)
    by false h ih = let above : x ≤ℤ y = grind (arith, ints) in (each-put (λ z. z ≤ℤ y) x ys above d.0, ih)

pub Descend-descending : (xs : List ℤ) → Descend (descending xs)
Descend-descending [] = tt
Descend-descending (x ∷ xs) = Descend-put x (descending xs) (Descend-descending xs)

-- a list that is sorted with the greatest first
pub Descend-from_sorted : (xs : List ℤ) → IsSortedBy (λ x y. is_lt (int_cmp y x)) xs → Descend xs
Descend-from_sorted [] h = tt
Descend-from_sorted (x ∷ []) h = (tt, tt)
Descend-from_sorted (x ∷ y ∷ ys) h =
    let tail = Descend-from_sorted (y ∷ ys) (λ k d low within.
    let next : suc k + 1 ≡ suc (k + 1) = omega arith in
    subst (λ n. is_lt (int_cmp (get_or (x ∷ y ∷ ys) (suc k) d) (get_or (x ∷ y ∷ ys) n d)) ≡ false) next (h (suc k) d (omega arith) (omega arith))) in
    let first : is_lt (int_cmp x y) ≡ false = h 0 x (omega arith) (omega arith) in
    let below : y ≤ℤ x = not_less x y first in
    ((below, lower x y ys below tail.0), tail)
  where
    not_less : (x y : ℤ) → is_lt (int_cmp x y) ≡ false → y ≤ℤ x
    not_less x y h = by_lt_z x y (λ lt. absurd (let e : true ≡ false = ap is_lt (int_cmp_is x y Less lt) ∙ h in cc)) (λ le. le)

-- each number is among those that the list was made of
each-descending : (P : ℤ → Type 0) (xs : List ℤ) → AllByRecursion P xs → AllByRecursion P (descending xs)
each-descending P [] all = tt
each-descending P (x ∷ xs) all = each-put P x (descending xs) all.0 (each-descending P xs all.1)

each-at : (P : ℤ → Type 0) (xs : List ℤ) (i : ℕ) (d : ℤ) → P d → AllByRecursion P xs → P (get_or xs i d)
each-at P [] i d h all = h
each-at P (x ∷ xs) zero d h all = all.0
each-at P (x ∷ xs) (suc i) d h all = each-at P xs i d h all.1

pub descending-each_at : (P : ℤ → Type 0) (xs : List ℤ) (i : ℕ) (d : ℤ) → P d → AllByRecursion P xs → P (get_or (descending xs) i d)
descending-each_at P xs i d h all = each-at P (descending xs) i d h (each-descending P xs all)

reach-put : (e x : ℤ) (ys : List ℤ) → reach_count e (put x ys) ≡ reach_count e (x ∷ ys)
reach-put e x [] = refl
reach-put e x (y ∷ ys) = by (int_le y x) (reach-put e x ys)
  where
    by : (b : Bool) → reach_count e (put x ys) ≡ reach_count e (x ∷ ys) → reach_count e (cond b (x ∷ y ∷ ys) (y ∷ put x ys)) ≡ reach_count e (x ∷ y ∷ ys)
    by true ih = refl
    by false ih = omega (arith, reach-cons e y (put x ys), reach-cons e x ys, reach-cons e x (y ∷ ys), reach-cons e y ys)

pub reach-descending : (e : ℤ) (xs : List ℤ) → reach_count e (descending xs) ≡ reach_count e xs
reach-descending e [] = refl
reach-descending e (x ∷ xs) = omega (arith, reach-put e x (descending xs), reach-cons e x (descending xs), reach-cons e x xs, reach-descending e xs)

-- ---- one list

reached_member : (e : ℤ) (x : ℤ) (xs : List ℤ) → Descend (x ∷ xs) → 0 < reach_count e (x ∷ xs) → e ≤ℤ x
reached_member e x xs d some =
    let found = counted (λ y. int_le e y) (x ∷ xs) some in
    let upper : found.0 ≤ℤ x = at_member (λ y. y ≤ℤ x) found.0 (x ∷ xs) (≤ℤ_refl x, d.0) found.1 in
    let high : e ≤ℤ found.0 = grind (arith, ints) in
    omega (arith, ints)

reach-head : (x : ℤ) (xs : List ℤ) → 0 < reach_count x (x ∷ xs)
reach-head x xs = omega (arith, reach-cons x x xs, reached_one x x (≤ℤ_refl x))

antisymmetric : (x y : ℤ) → x ≤ℤ y → y ≤ℤ x → x ≡ y
antisymmetric x y h k = omega (arith, ints)

-- lists with the greatest first in which as many numbers reach each number are one
descend_same : (xs ys : List ℤ) → Descend xs → Descend ys → ((e : ℤ) → reach_count e xs ≡ reach_count e ys) → xs ≡ ys
descend_same [] [] d r same = refl
descend_same [] (y ∷ ys) d r same = absurd (omega (arith, same y, reach-head y ys))
descend_same (x ∷ xs) [] d r same = absurd (omega (arith, same x, reach-head x xs))
descend_same (x ∷ xs) (y ∷ ys) d r same =
    let upper : x ≤ℤ y = reached_member x y ys r (omega (arith, same x, reach-head x xs)) in
    let lower' : y ≤ℤ x = reached_member y x xs d (omega (arith, same y, reach-head y ys)) in
    let head : x ≡ y = antisymmetric x y upper lower' in
    let tail : (e : ℤ) → reach_count e xs ≡ reach_count e ys =
    λ e. omega (arith, same e, reach-cons e x xs, reach-cons e y ys, ap {B = ℕ} (λ z. cond (int_le e z) 1 0) head) in
    (λ j. head j ∷ descend_same xs ys d.1 r.1 tail j)

-- a permutation with the greatest first is the list that is made so
pub descending-permutation : (xs ys : List ℤ) → IsPermutation xs ys → Descend ys → descending xs ≡ ys
descending-permutation xs ys same d =
    descend_same (descending xs) ys (Descend-descending xs) d (λ e. reach-descending e xs ∙ sym (sum_by-IsPermutation (λ x. cond (int_le e x) 1 0) xs ys same))

-- ---- the number at a place

at-le : (x : ℤ) (xs : List ℤ) (i : ℕ) (d : ℤ) → i < length xs → AllByRecursion (λ y. y ≤ℤ x) xs → get_or xs i d ≤ℤ x
at-le x [] i d within all = absurd (omega arith)
at-le x (y ∷ ys) zero d within all = all.0
at-le x (y ∷ ys) (suc i) d within all = at-le x ys i d (omega arith) all.1

-- more numbers reach the one at a place than stand before it
pub reach-at : (xs : List ℤ) (i : ℕ) (d : ℤ) → i < length xs → Descend xs → i < reach_count (get_or xs i d) xs
reach-at [] i d within down = absurd (omega arith)
reach-at (x ∷ xs) zero d within down = reach-head x xs
reach-at (x ∷ xs) (suc i) d within down =
    let ih = reach-at xs i d (omega arith) down.1 in
    let one = reached_one (get_or xs i d) x (at-le x xs i d (omega arith) down.0) in
    omega (arith, reach-cons (get_or xs i d) x xs)
