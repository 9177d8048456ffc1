-- Members of lists, by recursion.
use Rattle.std.proofs.Common.{◌≡◌, ℕ, zero, suc, ◌<◌, Bool, true, false, cond, List, [], ◌∷◌, ◌++◌, map, length, get_or, refl, sym, ap, ◌∙◌, subst, ◌⊎◌, inl}
use Rattle.std.proofs.Common.{inr, arith, filter, flat_map, Contains, take, drop, ◌≤◌}
use Rattle.std.specs.List.{AllByRecursion}
use Rattle.hu_kind.specs.declared.entry.Entry.{Entry}

-- x is an element of a list
abbrev pub Member : {A : Type 0} → A → List A → Type 0
Member x [] = ⊥
Member x (y ∷ ys) = (y ≡ x) ⊎ Member x ys

pub Contains-from_member : {A : Type 0} (x : A) (xs : List A) → Member x xs → Contains xs x
Contains-from_member x [] m = absurd m
Contains-from_member x (y ∷ ys) (inl e) = (0, omega arith, e)
Contains-from_member x (y ∷ ys) (inr m) = let c = Contains-from_member x ys m in (suc c.0, omega (arith, c.1), c.2)

pub Member-take : {A : Type 0} (x : A) (n : ℕ) (xs : List A) → Member x (take n xs) → Member x xs
Member-take x zero xs m = absurd m
Member-take x (suc n) [] m = absurd m
Member-take x (suc n) (y ∷ ys) (inl e) = inl e
Member-take x (suc n) (y ∷ ys) (inr m) = inr (Member-take x n ys m)

pub Member-drop : {A : Type 0} (x : A) (n : ℕ) (xs : List A) → Member x (drop n xs) → Member x xs
Member-drop x zero xs m = m
Member-drop x (suc n) [] m = absurd m
Member-drop x (suc n) (y ∷ ys) m = inr (Member-drop x n ys m)

-- past the end there is none
pub Member-past : {A : Type 0} (x : A) (n : ℕ) (xs : List A) → length xs ≤ n → Member x (drop n xs) → ⊥
Member-past x zero [] past m = m
Member-past x (suc n) [] past m = m
Member-past x zero (y ∷ ys) past m = absurd (omega arith)
Member-past x (suc n) (y ∷ ys) past m = Member-past x n ys (omega arith) m

Member-at : {A : Type 0} (x : A) (xs : List A) (k : ℕ) → k < length xs → get_or xs k x ≡ x → Member x xs
Member-at x [] k below e = absurd (omega arith)
Member-at x (y ∷ ys) zero below e = inl e
Member-at x (y ∷ ys) (suc k) below e = inr (Member-at x ys k (omega arith) e)

pub Member-from_contains : {A : Type 0} (x : A) (xs : List A) → Contains xs x → Member x xs
Member-from_contains x xs c = Member-at x xs c.0 c.1 c.2

pub Member-append_left : {A : Type 0} (x : A) (xs ys : List A) → Member x xs → Member x (xs ++ ys)
Member-append_left x [] ys m = absurd m
Member-append_left x (z ∷ xs) ys (inl e) = inl e
Member-append_left x (z ∷ xs) ys (inr m) = inr (Member-append_left x xs ys m)

pub Member-append_right : {A : Type 0} (x : A) (xs ys : List A) → Member x ys → Member x (xs ++ ys)
Member-append_right x [] ys m = m
Member-append_right x (z ∷ xs) ys m = inr (Member-append_right x xs ys m)

pub Member-append_cases : {A : Type 0} (x : A) (xs ys : List A) → Member x (xs ++ ys) → Member x xs ⊎ Member x ys
Member-append_cases x [] ys m = inr m
Member-append_cases x (z ∷ xs) ys (inl e) = inl (inl e)
Member-append_cases x (z ∷ xs) ys (inr m) = elim (Member-append_cases x xs ys m) [ inl a ↦ inl (inr a) | inr b ↦ inr b ]

pub Member-map : {A B : Type 0} (f : A → B) (x : A) (xs : List A) → Member x xs → Member (f x) (map f xs)
Member-map f x [] m = absurd m
Member-map f x (y ∷ ys) (inl e) = inl (ap f e)
Member-map f x (y ∷ ys) (inr m) = inr (Member-map f x ys m)

pub Member-from_map : {A B : Type 0} (f : A → B) (y : B) (xs : List A) → Member y (map f xs) → (x : A) × Member x xs × (f x ≡ y)
Member-from_map f y [] m = absurd m
Member-from_map f y (x ∷ xs) (inl e) = (x, inl refl, e)
Member-from_map f y (x ∷ xs) (inr m) = let r = Member-from_map f y xs m in (r.0, inr r.1, r.2)

pub Member-flat_map : {A B : Type 0} (f : A → List B) (x : A) (y : B) (xs : List A) → Member x xs → Member y (f x) → Member y (flat_map f xs)
Member-flat_map f x y [] m n = absurd m
Member-flat_map f x y (z ∷ zs) (inl e) n = Member-append_left y (f z) (flat_map f zs) (subst (λ w. Member y (f w)) (sym e) n)
Member-flat_map f x y (z ∷ zs) (inr m) n = Member-append_right y (f z) (flat_map f zs) (Member-flat_map f x y zs m n)

pub Member-from_flat_map : {A B : Type 0} (f : A → List B) (y : B) (xs : List A) → Member y (flat_map f xs) → (x : A) × Member x xs × Member y (f x)
Member-from_flat_map f y [] m = absurd m
Member-from_flat_map f y (x ∷ xs) m = elim (Member-append_cases y (f x) (flat_map f xs) m) [
  | inl a ↦ (x, inl refl, a)
  | inr b ↦ let r = Member-from_flat_map f y xs b in (r.0, inr r.1, r.2)
]

Member-filter-cons : {A : Type 0} (p : A → Bool) (x y : A) (ys : List A) → (Member x ys → Member x (filter p ys))
    → (b : Bool) → p y ≡ b → Member x (y ∷ ys) → p x ≡ true → Member x (cond b (y ∷ filter p ys) (filter p ys))
Member-filter-cons p x y ys ih true e (inl s) h = inl s
Member-filter-cons p x y ys ih true e (inr m) h = inr (ih m)
Member-filter-cons p x y ys ih false e (inl s) h = let no : true ≡ false = sym h ∙ ap p (sym s) ∙ e in cc
Member-filter-cons p x y ys ih false e (inr m) h = ih m

pub Member-filter : {A : Type 0} (p : A → Bool) (x : A) (xs : List A) → Member x xs → p x ≡ true → Member x (filter p xs)
Member-filter p x [] m h = absurd m
Member-filter p x (y ∷ ys) m h = Member-filter-cons p x y ys (λ n. Member-filter p x ys n h) (p y) refl m h

Member-from_filter-cons : {A : Type 0} (p : A → Bool) (x y : A) (ys : List A)
    → (Member x (filter p ys) → Member x ys × (p x ≡ true)) → (b : Bool) → p y ≡ b
    → Member x (cond b (y ∷ filter p ys) (filter p ys)) → Member x (y ∷ ys) × (p x ≡ true)
Member-from_filter-cons p x y ys ih true e (inl s) = (inl s, ap p (sym s) ∙ e)
Member-from_filter-cons p x y ys ih true e (inr m) = let r = ih m in (inr r.0, r.1)
Member-from_filter-cons p x y ys ih false e m = let r = ih m in (inr r.0, r.1)

pub Member-from_filter : {A : Type 0} (p : A → Bool) (x : A) (xs : List A) → Member x (filter p xs) → Member x xs × (p x ≡ true)
Member-from_filter p x [] m = absurd m
Member-from_filter p x (y ∷ ys) m = Member-from_filter-cons p x y ys (Member-from_filter p x ys) (p y) refl m

pub Member-from_take : {A : Type 0} (x : A) (k : ℕ) (xs : List A) → Member x (take k xs) → Member x xs
Member-from_take x zero xs m = absurd m
Member-from_take x (suc k) [] m = absurd m
Member-from_take x (suc k) (y ∷ ys) (inl e) = inl e
Member-from_take x (suc k) (y ∷ ys) (inr m) = inr (Member-from_take x k ys m)

pub Member-get : {A : Type 0} (xs : List A) (i : ℕ) (d : A) → i < length xs → Member (get_or xs i d) xs
Member-get [] i d within = absurd (omega (arith, within))
Member-get (x ∷ xs) zero d within = inl refl
Member-get (x ∷ xs) (suc i) d within = inr (Member-get xs i d (omega arith))

pub filter-all : (p : Entry → Bool) (xs : List Entry) → AllByRecursion (λ x. p x ≡ true) xs → filter p xs ≡ xs
filter-all p [] all = refl
filter-all p (x ∷ xs) all = rw (all.0) (ap (λ ys. x ∷ ys) (filter-all p xs all.1))
