-- Tests of lists, by their members, and how many pass.
use Rattle.std.proofs.Common.{◌≡◌, ℕ, ◌≤◌, ◌+◌, Bool, true, false, cond, List, [], ◌∷◌, refl, sym, ap, subst, inl, inr, arith, count_by}
use Rattle.std.proofs.lemmas.List.Sums.{sum_by-cons}
use Rattle.hu_kind.proofs.lemmas.Members.{Member}

-- ---- counts by two tests, one weaker

bit-weaker : (a b : Bool) → (a ≡ true → b ≡ true) → cond a 1 0 ≤ cond b 1 0
bit-weaker true b w = let yes : b ≡ true = w refl in rw yes (omega arith)
bit-weaker false b w = omega arith

count-weaker : {A : Type 0} (p q : A → Bool) → ((x : A) → p x ≡ true → q x ≡ true) → (xs : List A) → count_by p xs ≤ count_by q xs
count-weaker p q w [] = omega arith
count-weaker p q w (x ∷ xs) =
    let ih = count-weaker p q w xs in
    let head = bit-weaker (p x) (q x) (w x) in
    omega (arith, sum_by-cons (λ y. cond (p y) 1 0) x xs, sum_by-cons (λ y. cond (q y) 1 0) x xs)

bits-same : (a b : Bool) (m n : ℕ) → m ≤ n → cond a 1 0 + m ≡ cond b 1 0 + n → (a ≡ true → b ≡ true) → (b ≡ true → a ≡ true) × (m ≡ n)
bits-same true true m n le e w = (λ h. refl, omega arith)
bits-same false false m n le e w = (λ h. h, omega arith)
bits-same false true m n le e w = absurd (omega arith)
bits-same true false m n le e w = absurd (let no : false ≡ true = w refl in cc)

-- where the weaker test passes no more, it passes nowhere else
pub count-same : {A : Type 0} (p q : A → Bool) → ((x : A) → p x ≡ true → q x ≡ true) → (xs : List A) → count_by p xs ≡ count_by q xs
    → (x : A) → Member x xs → q x ≡ true → p x ≡ true
count-same p q w [] e x m h = absurd m
count-same p q w (y ∷ ys) e x m h =
    let heads : cond (p y) 1 0 + count_by p ys ≡ cond (q y) 1 0 + count_by q ys =
    omega (arith, e, sum_by-cons (λ z. cond (p z) 1 0) y ys, sum_by-cons (λ z. cond (q z) 1 0) y ys) in
    let both = bits-same (p y) (q y) (count_by p ys) (count_by q ys) (count-weaker p q w ys) heads (w y) in
    elim m [
      | inl at_head ↦ subst (λ z. p z ≡ true) at_head (both.0 (subst (λ z. q z ≡ true) (sym at_head) h))
      | inr later ↦ count-same p q w ys both.1 x later h
    ]

-- tests that are the same at each member pass as often
pub count-by_members : {A : Type 0} (p q : A → Bool) (xs : List A) → ((x : A) → Member x xs → p x ≡ q x) → count_by p xs ≡ count_by q xs
count-by_members p q [] each = refl
count-by_members p q (x ∷ xs) each =
    let ih = count-by_members p q xs (λ y m. each y (inr m)) in
    let head : ◌≡◌ {A = ℕ} (cond (p x) 1 0) (cond (q x) 1 0) = ap (λ b. cond b 1 0) (each x (inl refl)) in
    omega (arith, ih, head, sum_by-cons (λ y. cond (p y) 1 0) x xs, sum_by-cons (λ y. cond (q y) 1 0) x xs)
