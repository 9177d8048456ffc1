-- Tests of all elements of a list, of some, and their count.
use Rattle.std.proofs.Common.{◌≡◌, ◌∙◌, ℕ, ◌+◌, eqb, Bool, true, false, cond, not, ◌&&◌, ◌||◌, List, [], ◌∷◌, map, refl, sym, ap, arith, filter, count_by}
use Rattle.std.specs.List.{list_all, list_any}
use Rattle.std.proofs.lemmas.Bool.{ne_eqb}
use Rattle.std.proofs.lemmas.List.Sums.{sum_by-cons}
use Rattle.hu_kind.proofs.lemmas.Members.{Member}
use Rattle.hu_kind.proofs.lemmas.Tests.{all-at_member, all-by_members, any-member, any-from_member, same_bool}

-- tests that answer alike
pub all-same : {X : Type 0} (p q : X → Bool) → ((x : X) → p x ≡ q x) → (xs : List X) → list_all p xs ≡ list_all q xs
all-same p q same [] = refl
all-same p q same (x ∷ xs) = rw (same x, all-same p q same xs) refl

pub any-same : {X : Type 0} (p q : X → Bool) → ((x : X) → p x ≡ q x) → (xs : List X) → list_any p xs ≡ list_any q xs
any-same p q same [] = refl
any-same p q same (x ∷ xs) = rw (same x, any-same p q same xs) refl

-- all pass where none fails
not-or : (a b : Bool) → (not a && not b) ≡ not (a || b)
not-or true b = refl
not-or false b = refl

pub all-not : {X : Type 0} (p : X → Bool) (xs : List X) → list_all (λ x. not (p x)) xs ≡ not (list_any p xs)
all-not p [] = refl
all-not p (x ∷ xs) = ap (λ b. not (p x) && b) (all-not p xs) ∙ not-or (p x) (list_any p xs)

pub all-kept : {X : Type 0} (p q : X → Bool) → ((x : X) → p x ≡ true → q x ≡ true) → (xs : List X) → list_all p xs ≡ true → list_all q xs ≡ true
all-kept p q kept xs all = all-by_members q xs (λ x m. kept x (all-at_member p x xs all m))

-- lists with the same members among those that pass
pub any-members : {X : Type 0} (p : X → Bool) (xs ys : List X) → ((x : X) → p x ≡ true → Member x xs → Member x ys)
    → ((x : X) → p x ≡ true → Member x ys → Member x xs) → list_any p xs ≡ list_any p ys
any-members p xs ys up down = same_bool (list_any p xs) (list_any p ys)
    (λ h. let found = any-member p xs h in any-from_member p found.0 ys (up found.0 found.2 found.1) found.2)
    (λ h. let found = any-member p ys h in any-from_member p found.0 xs (down found.0 found.2 found.1) found.2)

-- elements that a filter leaves out
all-filter-cons : {X : Type 0} (p q : X → Bool) (x : X) (xs : List X) (b : Bool) → q x ≡ b → (q x ≡ false → p x ≡ true)
    → list_all p (filter q xs) ≡ list_all p xs
    → list_all p (cond b (x ∷ filter q xs) (filter q xs)) ≡ (p x && list_all p xs)
all-filter-cons p q x xs true e out ih = ap (λ b. p x && b) ih
all-filter-cons p q x xs false e out ih = rw (out e) ih

pub all-filter : {X : Type 0} (p q : X → Bool) → ((x : X) → q x ≡ false → p x ≡ true) → (xs : List X) → list_all p (filter q xs) ≡ list_all p xs
all-filter p q out [] = refl
all-filter p q out (x ∷ xs) = all-filter-cons p q x xs (q x) refl (out x) (all-filter p q out xs)

pub count-cons : {X : Type 0} (p : X → Bool) (x : X) (xs : List X) → count_by p (x ∷ xs) ≡ cond (p x) 1 0 + count_by p xs
count-cons p x xs = sum_by-cons (λ y. cond (p y) 1 0) x xs

-- none passes where the count is 0
count-none-cons : (b rest : Bool) (n : ℕ) → eqb n 0 ≡ not rest → eqb (cond b 1 0 + n) 0 ≡ not (b || rest)
count-none-cons true rest n ih = ne_eqb (1 + n) 0 (λ e. absurd (omega (arith, e)))
count-none-cons false rest n ih = let same : 0 + n ≡ n = omega arith in ap (λ k. eqb k 0) same ∙ ih

pub count-none : {X : Type 0} (p : X → Bool) (xs : List X) → eqb (count_by p xs) 0 ≡ not (list_any p xs)
count-none p [] = refl
count-none p (x ∷ xs) = ap (λ n. eqb n 0) (count-cons p x xs) ∙ count-none-cons (p x) (list_any p xs) (count_by p xs) (count-none p xs)

count-filter-cons : {X : Type 0} (p q : X → Bool) (x : X) (xs : List X) (b : Bool) → q x ≡ b
    → (q x ≡ false → p x ≡ false) → count_by p (filter q xs) ≡ count_by p xs
    → count_by p (cond b (x ∷ filter q xs) (filter q xs)) ≡ cond (p x) 1 0 + count_by p xs
count-filter-cons p q x xs true e out ih = count-cons p x (filter q xs) ∙ ap (λ n. cond (p x) 1 0 + n) ih
count-filter-cons p q x xs false e out ih = rw (out e) (omega (arith, ih))

pub count-filter : {X : Type 0} (p q : X → Bool) → ((x : X) → q x ≡ false → p x ≡ false) → (xs : List X) → count_by p (filter q xs) ≡ count_by p xs
count-filter p q out [] = refl
count-filter p q out (x ∷ xs) = count-filter-cons p q x xs (q x) refl (out x) (count-filter p q out xs) ∙ sym (count-cons p x xs)

pub count-map : {X Y : Type 0} (p : Y → Bool) (f : X → Y) (xs : List X) → count_by p (map f xs) ≡ count_by (λ x. p (f x)) xs
count-map p f [] = refl
count-map p f (x ∷ xs) = count-cons p (f x) (map f xs) ∙ ap (λ n. cond (p (f x)) 1 0 + n) (count-map p f xs) ∙ sym (count-cons (λ x. p (f x)) x xs)

pub count-same : {X : Type 0} (p q : X → Bool) → ((x : X) → p x ≡ q x) → (xs : List X) → count_by p xs ≡ count_by q xs
count-same p q same [] = refl
count-same p q same (x ∷ xs) = count-cons p x xs ∙ (λ j. cond (same x j) 1 0 + count-same p q same xs j) ∙ sym (count-cons q x xs)
