-- Falling values, and the sums of the first of them.
use Rattle.std.proofs.Common.{◌≡◌, ℕ, zero, suc, Bool, true, false, cond, int_lt, ℤ, pos, ◌+ℤ◌, ◌≤ℤ◌, ◌<ℤ◌, List, [], ◌∷◌, take, refl, ap, arith}
use Rattle.std.specs.List.{AllByRecursion}
use Rattle.std.proofs.lemmas.Int.{ints}
use Rattle.hu_kind.proofs.lemmas.Each.{each-weaker}
use Rattle.hu_lengths.specs.Bound.{put, falling, sum_of}

-- values that fall
abbrev pub Falls : List ℤ → Type 0
Falls [] = Unit {0}
Falls (x ∷ xs) = AllByRecursion (λ y. y ≤ℤ x) xs × Falls xs

-- values of which none is below 0
abbrev pub NoLoss : List ℤ → Type 0
NoLoss xs = AllByRecursion (λ y. pos 0 ≤ℤ y) xs

-- the sum of the first of some values
abbrev pub first_sum : ℕ → List ℤ → ℤ
first_sum n xs = sum_of (take n xs)

at_most : (x v : ℤ) → int_lt x v ≡ false → v ≤ℤ x
at_most x v h = grind (arith, ints)

less : (x v : ℤ) → int_lt x v ≡ true → x <ℤ v
less x v h = grind (arith, ints)

each-put : (P : ℤ → Type 0) (v : ℤ) (xs : List ℤ) → P v → AllByRecursion P xs → AllByRecursion P (put v xs)
each-put P v [] h all = (h, tt)
each-put P v (x ∷ xs) h all = by (int_lt x v) (each-put P v xs h all.1)
  where
    by : (b : Bool) → AllByRecursion P (put v xs) → AllByRecursion P (cond b (v ∷ x ∷ xs) (x ∷ put v xs))
    by true rest = (h, all)
    by false rest = (all.0, rest)

put-falls : (v : ℤ) (xs : List ℤ) → Falls xs → Falls (put v xs)
put-falls v [] fall = (tt, tt)
put-falls v (x ∷ xs) fall = by (int_lt x v) refl (put-falls v xs fall.1)
  where
    by : (b : Bool) → int_lt x v ≡ b → Falls (put v xs) → Falls (cond b (v ∷ x ∷ xs) (x ∷ put v xs))
    by true h rest =
        let low = less x v h in
        ((omega (arith, ints, low), each-weaker (λ y. y ≤ℤ x) (λ y. y ≤ℤ v) xs (λ y under. omega (arith, ints, low, under)) fall.0), fall)
    by false h rest = (each-put (λ y. y ≤ℤ x) v xs (at_most x v h) fall.0, rest)

pub falling-falls : (values : List ℤ) → Falls (falling values)
falling-falls [] = tt
falling-falls (v ∷ vs) = put-falls v (falling vs) (falling-falls vs)

pub falling-least : (values : List ℤ) → NoLoss values → NoLoss (falling values)
falling-least [] all = tt
falling-least (v ∷ vs) all = each-put (λ y. pos 0 ≤ℤ y) v (falling vs) all.0 (falling-least vs all.1)

-- ---- sums of the first

pub first_sum-least : (n : ℕ) (xs : List ℤ) → NoLoss xs → pos 0 ≤ℤ first_sum n xs
first_sum-least zero xs all = omega (arith, ints)
first_sum-least (suc n) [] all = omega (arith, ints)
first_sum-least (suc n) (x ∷ xs) all = let rest = first_sum-least n xs all.1 in let here = all.0 in omega (arith, ints, rest, here)

pub first_sum-more : (n : ℕ) (xs : List ℤ) → NoLoss xs → first_sum n xs ≤ℤ first_sum (suc n) xs
first_sum-more zero xs all = first_sum-least 1 xs all
first_sum-more (suc n) [] all = omega (arith, ints)
first_sum-more (suc n) (x ∷ xs) all = let rest = first_sum-more n xs all.1 in omega (arith, ints, rest)

pub first_sum-within : (n : ℕ) (xs : List ℤ) → NoLoss xs → first_sum n xs ≤ℤ sum_of xs
first_sum-within zero [] all = omega (arith, ints)
first_sum-within zero (x ∷ xs) all = let rest = first_sum-within zero xs all.1 in let here = all.0 in omega (arith, ints, rest, here)
first_sum-within (suc n) [] all = omega (arith, ints)
first_sum-within (suc n) (x ∷ xs) all = let rest = first_sum-within n xs all.1 in omega (arith, ints, rest)

without_first : (n : ℕ) (x : ℤ) (xs : List ℤ) → Falls (x ∷ xs) → NoLoss (x ∷ xs) → first_sum n xs ≤ℤ first_sum n (x ∷ xs)
without_first zero x xs fall all = omega (arith, ints)
without_first (suc n) x [] fall all =
    let here = all.0 in let none = first_sum-least n [] tt in omega (arith, ints, here, none)
without_first (suc n) x (y ∷ ys) fall all =
    let rest = without_first n y ys fall.1 all.1 in
    let under = fall.0.0 in
    omega (arith, ints, rest, under)

-- a value more doesn't lessen the sum
pub put-keeps : (n : ℕ) (v : ℤ) (xs : List ℤ) → Falls xs → NoLoss xs → pos 0 ≤ℤ v → first_sum n xs ≤ℤ first_sum n (put v xs)
put-keeps zero v xs fall all least = omega (arith, ints)
put-keeps (suc n) v [] fall all least = let none = first_sum-least n [] tt in omega (arith, ints, none, least)
put-keeps (suc n) v (x ∷ xs) fall all least = by (int_lt x v) refl (put-keeps n v xs fall.1 all.1 least)
  where
    by : (b : Bool) → int_lt x v ≡ b → first_sum n xs ≤ℤ first_sum n (put v xs)
        → first_sum (suc n) (x ∷ xs) ≤ℤ first_sum (suc n) (cond b (v ∷ x ∷ xs) (x ∷ put v xs))
    by true h rest = let low = less x v h in let fewer = without_first n x xs fall all in omega (arith, ints, low, fewer)
    by false h rest = omega (arith, ints, rest)

-- and the sum of one more counts it
pub put-counts : (n : ℕ) (v : ℤ) (xs : List ℤ) → (v +ℤ first_sum n xs) ≤ℤ first_sum (suc n) (put v xs)
put-counts n v [] = omega (arith, ints)
put-counts zero v (x ∷ xs) = by (int_lt x v) refl
  where
    by : (b : Bool) → int_lt x v ≡ b → (v +ℤ pos 0) ≤ℤ first_sum 1 (cond b (v ∷ x ∷ xs) (x ∷ put v xs))
    by true h = omega (arith, ints)
    by false h = let low = at_most x v h in omega (arith, ints, low)
put-counts (suc n) v (x ∷ xs) = by (int_lt x v) (put-counts n v xs)
  where
    by : (b : Bool) → (v +ℤ first_sum n xs) ≤ℤ first_sum (suc n) (put v xs)
        → (v +ℤ first_sum (suc n) (x ∷ xs)) ≤ℤ first_sum (suc (suc n)) (cond b (v ∷ x ∷ xs) (x ∷ put v xs))
    by true rest = omega (arith, ints)
    by false rest = omega (arith, ints, rest)

sum_of-put : (v : ℤ) (xs : List ℤ) → sum_of (put v xs) ≡ (v +ℤ sum_of xs)
sum_of-put v [] = refl
sum_of-put v (x ∷ xs) = by (int_lt x v) (sum_of-put v xs)
  where
    by : (b : Bool) → sum_of (put v xs) ≡ (v +ℤ sum_of xs) → sum_of (cond b (v ∷ x ∷ xs) (x ∷ put v xs)) ≡ (v +ℤ sum_of (x ∷ xs))
    by true rest = refl
    by false rest = omega (arith, ints, rest)

pub sum_of-falling : (values : List ℤ) → sum_of (falling values) ≡ sum_of values
sum_of-falling [] = refl
sum_of-falling (v ∷ vs) = let rest = sum_of-falling vs in omega (arith, ints, rest, sum_of-put v (falling vs))

-- ---- the first of falling values are kept as one more is put in

front-again : (n : ℕ) (xs : List ℤ) → take n (take (suc n) xs) ≡ take n xs
front-again zero xs = refl
front-again (suc n) [] = refl
front-again (suc n) (x ∷ xs) = ap (λ t. x ∷ t) (front-again n xs)

front-first : (n : ℕ) (x : ℤ) (xs : List ℤ) → take n (x ∷ take n xs) ≡ take n (x ∷ xs)
front-first zero x xs = refl
front-first (suc n) x xs = ap (λ t. x ∷ t) (front-again n xs)

pub take-put : (n : ℕ) (v : ℤ) (xs : List ℤ) → take n (put v (take n xs)) ≡ take n (put v xs)
take-put zero v xs = refl
take-put (suc n) v [] = refl
take-put (suc n) v (x ∷ xs) = by (int_lt x v) (take-put n v xs)
  where
    by : (b : Bool) → take n (put v (take n xs)) ≡ take n (put v xs)
        → take (suc n) (cond b (v ∷ x ∷ take n xs) (x ∷ put v (take n xs))) ≡ take (suc n) (cond b (v ∷ x ∷ xs) (x ∷ put v xs))
    by true rest = ap (λ t. v ∷ t) (front-first n x xs)
    by false rest = ap (λ t. x ∷ t) rest
