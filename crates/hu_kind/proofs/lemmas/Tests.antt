-- Tests of lists, by their members.
use Rattle.std.proofs.Common.{[], ◌≡◌, Bool, true, List, ◌∷◌, subst, inl, inr, refl, false, sym}
use Rattle.std.specs.List.{list_all, list_any}
use Rattle.std.proofs.lemmas.Bool.{and_parts, and_from, or_cases, or_left, or_right}
use Rattle.hu_kind.proofs.lemmas.Members.{Member}

pub all-at_member : {A : Type 0} (p : A → Bool) (x : A) (xs : List A) → list_all p xs ≡ true → Member x xs → p x ≡ true
all-at_member p x [] h m = absurd m
all-at_member p x (y ∷ ys) h (inl e) = subst (λ z. p z ≡ true) e (and_parts (p y) (list_all p ys) h).0
all-at_member p x (y ∷ ys) h (inr m) = all-at_member p x ys (and_parts (p y) (list_all p ys) h).1 m

pub all-by_members : {A : Type 0} (p : A → Bool) (xs : List A) → ((x : A) → Member x xs → p x ≡ true) → list_all p xs ≡ true
all-by_members p [] each = refl
all-by_members p (x ∷ xs) each = and_from (p x) (list_all p xs) (each x (inl refl)) (all-by_members p xs (λ y m. each y (inr m)))

pub any-member : {A : Type 0} (p : A → Bool) (xs : List A) → list_any p xs ≡ true → (x : A) × Member x xs × (p x ≡ true)
any-member p [] h = absurd (let no : false ≡ true = h in cc)
any-member p (x ∷ xs) h = elim (or_cases (p x) (list_any p xs) h) [
  | inl here ↦ (x, inl refl, here)
  | inr later ↦ let r = any-member p xs later in (r.0, inr r.1, r.2)
]

pub any-from_member : {A : Type 0} (p : A → Bool) (x : A) (xs : List A) → Member x xs → p x ≡ true → list_any p xs ≡ true
any-from_member p x [] m h = absurd m
any-from_member p x (y ∷ ys) (inl e) h = or_left (p y) (list_any p ys) (subst (λ z. p z ≡ true) (sym e) h)
any-from_member p x (y ∷ ys) (inr m) h = or_right (p y) (list_any p ys) (any-from_member p x ys m h)

pub same_bool : (a b : Bool) → (a ≡ true → b ≡ true) → (b ≡ true → a ≡ true) → a ≡ b
same_bool true b up down = sym (up refl)
same_bool false true up down = down refl
same_bool false false up down = refl
