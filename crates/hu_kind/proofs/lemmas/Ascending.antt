-- Numbers that ascend.
use Rattle.std.proofs.Common.{◌≡◌, ℕ, zero, suc, ◌<◌, ◌≤◌, ◌+◌, ℤ, List, [], ◌∷◌, ◌++◌, length, get_or, refl, arith, subst, inl, inr, All}
use Rattle.std.specs.List.{AllByRecursion, AllAdjacentBelow, range_with_len}
use Rattle.std.proofs.lemmas.Bool.{cases_eq}
use Rattle.hu_kind.specs.Record.{items_in}
use Rattle.hu_kind.specs.Order.{Ascend}
use Rattle.hu_kind.proofs.lemmas.Each.{each-from_all, each-weaker, each-left, each-append}
use Rattle.hu_kind.proofs.lemmas.Members.{Member, Member-append_right}
use Rattle.hu_kind.proofs.lemmas.Occurring.{above_all, at_member}

Ascend-adjacent-from : (first : ℕ × ℤ) (cells : List (ℕ × ℤ))
    → AllAdjacentBelow (λ a b. a.0 < b.0) (first ∷ cells) (length (first ∷ cells)) → Ascend (items_in (first ∷ cells))
Ascend-adjacent-from first [] up = (tt, tt)
Ascend-adjacent-from first (next ∷ cells) up =
    let up' : AllAdjacentBelow (λ (a b : ℕ × ℤ). a.0 < b.0) (next ∷ cells) (length (next ∷ cells)) =
    λ k d within. let e : suc k + 1 ≡ suc (k + 1) =
    omega arith in subst (λ j. (get_or (next ∷ cells) k d).0 < (get_or (first ∷ next ∷ cells) j d).0) e
    (up (suc k) d (omega arith)) in
    let rest = Ascend-adjacent-from next cells up' in
    let before : first.0 < next.0 = up 0 first (omega arith) in
    ((before, above_all first.0 next.0 (items_in cells) before rest.0), rest)

-- cells whose neighbours ascend
pub Ascend-adjacent : (cells : List (ℕ × ℤ)) → AllAdjacentBelow (λ a b. a.0 < b.0) cells (length cells) → Ascend (items_in cells)
Ascend-adjacent [] up = tt
Ascend-adjacent (first ∷ cells) up = Ascend-adjacent-from first cells up

pub each-ascending : (records : List (List (ℕ × ℤ))) → All
    (λ cells. AllAdjacentBelow (λ a b. a.0 < b.0) cells (length cells)) records
    → AllByRecursion (λ cells. Ascend (items_in cells)) records
each-ascending records all =
    each-weaker (λ cells. AllAdjacentBelow (λ a b. a.0 < b.0) cells (length cells)) (λ cells. Ascend (items_in cells)) records Ascend-adjacent
    (each-from_all (λ cells. AllAdjacentBelow (λ a b. a.0 < b.0) cells (length cells)) records all)

-- the parts of ascending numbers
pub Ascend-left : (xs ys : List ℕ) → Ascend (xs ++ ys) → Ascend xs
Ascend-left [] ys up = tt
Ascend-left (x ∷ xs) ys up = (each-left (λ y. x < y) xs ys up.0, Ascend-left xs ys up.1)

pub Ascend-right : (xs ys : List ℕ) → Ascend (xs ++ ys) → Ascend ys
Ascend-right [] ys up = up
Ascend-right (x ∷ xs) ys up = Ascend-right xs ys up.1

-- each number before is less than each after
pub Ascend-across : (xs ys : List ℕ) → Ascend (xs ++ ys) → (y : ℕ) → Member y ys → AllByRecursion (λ x. x < y) xs
Ascend-across [] ys up y m = tt
Ascend-across (x ∷ xs) ys up y m = (at_member (λ z. x < z) y (xs ++ ys) up.0 (Member-append_right y xs ys m), Ascend-across xs ys up.1 y m)

-- numbers that ascend to one, and one more
pub Ascend-push : (xs : List ℕ) (a b : ℕ) → Ascend (xs ++ a ∷ []) → a < b → Ascend (xs ++ a ∷ b ∷ [])
Ascend-push [] a b up below = ((below, tt), (tt, tt))
Ascend-push (x ∷ xs) a b up below =
    let before : x < a = at_member (λ z. x < z) a (xs ++ a ∷ []) up.0 (Member-append_right a xs (a ∷ []) (inl refl)) in
    (each-append (λ z. x < z) xs (a ∷ b ∷ []) (each-left (λ z. x < z) xs (a ∷ []) up.0) (before, (omega arith, tt)), Ascend-push xs a b up.1 below)

pub each-in_range : (n : ℕ) (records : List (List (ℕ × ℤ))) → All (λ cells. All (λ cell. cell.0 < n) cells) records
    → AllByRecursion (λ cells. AllByRecursion (λ cell. cell.0 < n) cells) records
each-in_range n records all =
    each-weaker (λ cells. All (λ cell. cell.0 < n) cells) (λ cells. AllByRecursion (λ cell. cell.0 < n) cells) records
    (λ cells. each-from_all (λ cell. cell.0 < n) cells)
    (each-from_all (λ cells. All (λ cell. cell.0 < n) cells) records all)

-- the numbers of a range
pub Member-range : (a n k : ℕ) → a ≤ k → k < a + n → Member k (range_with_len a n)
Member-range a zero k low high = absurd (omega arith)
Member-range a (suc n) k low high = elim (cases_eq a k) [
  | inl e ↦ inl e
  | inr ne ↦ inr (Member-range (a + 1) n k (omega (arith, ne)) (omega arith))
]

pub Ascend-last : (items : List ℕ) (item : ℕ) → Ascend items → AllByRecursion (λ z. z < item) items → Ascend (items ++ item ∷ [])
Ascend-last [] item up below = (tt, tt)
Ascend-last (x ∷ items) item up below = (each-append (λ z. x < z) items (item ∷ []) up.0 (below.0, tt), Ascend-last items item up.1 below.1)

pub above-get : (x : ℕ) (xs : List ℕ) (j : ℕ) → AllByRecursion (λ y. x < y) xs → j < length xs → x < get_or xs j 0
above-get x [] j up within = absurd (omega arith)
above-get x (y ∷ ys) zero up within = up.0
above-get x (y ∷ ys) (suc j) up within = above-get x ys j up.1 (omega arith)

-- a number further on is greater
pub rises-between : (xs : List ℕ) (i j : ℕ) → Ascend xs → i < j → j < length xs → get_or xs i 0 < get_or xs j 0
rises-between [] i j up before within = absurd (omega arith)
rises-between (x ∷ xs) i zero up before within = absurd (omega arith)
rises-between (x ∷ xs) zero (suc j) up before within = above-get x xs j up.0 (omega arith)
rises-between (x ∷ xs) (suc i) (suc j) up before within = rises-between xs i j up.1 (omega arith) (omega arith)

-- ranks that ascend below a number are at most so many
pub few-from : (n low : ℕ) (xs : List ℕ) → Ascend xs → AllByRecursion (λ x. x < n) xs → AllByRecursion (λ x. low < x) xs → low < n → length xs + low < n
few-from n low [] up below above h = omega arith
few-from n low (x ∷ xs) up below above h = let first = above.0 in omega (arith, few-from n x xs up.1 below.1 up.0 below.0)
