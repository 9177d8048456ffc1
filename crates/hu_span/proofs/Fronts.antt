-- The first of a list: what they hold, and what stands behind them.
use Rattle.std.proofs.Common.{◌≡◌, ℕ, zero, suc, ◌<◌, ◌+◌, List, [], ◌∷◌, length, get_or, take, drop, sym, subst, inl, inr, ◌⊎◌, Contains}
use Rattle.std.proofs.lemmas.List.{take_more}
use Rattle.std.proofs.lemmas.List.Elements.{Contains-append_left, Contains-push, Contains-push_cases}
use Rattle.hu_kind.proofs.lemmas.Members.{Member, Member-from_contains, Contains-from_member}

module _ {A : Type 0} (xs : List A) (i : ℕ) where
  module _ (d : A) (within : i < length xs) where
    pub contains-before : (x : A) → Contains (take i xs) x → Contains (take (i + 1) xs) x
    contains-before x c = subst (λ ys. Contains ys x) (sym (take_more xs i d within)) (Contains-append_left (take i xs) (get_or xs i d ∷ []) x c)

    pub contains-here : Contains (take (i + 1) xs) (get_or xs i d)
    contains-here = subst (λ ys. Contains ys (get_or xs i d)) (sym (take_more xs i d within)) (Contains-push (take i xs) (get_or xs i d))

    pub contains-cases : (x : A) → Contains (take (i + 1) xs) x → Contains (take i xs) x ⊎ (get_or xs i d ≡ x)
    contains-cases x c = Contains-push_cases (take i xs) (get_or xs i d) x (subst (λ ys. Contains ys x) (take_more xs i d within) c)

Member-front : {A : Type 0} (x : A) (xs : List A) (i : ℕ) → Member x (take i xs) → Member x xs
Member-front x xs zero m = absurd m
Member-front x [] (suc i) m = absurd m
Member-front x (y ∷ ys) (suc i) (inl e) = inl e
Member-front x (y ∷ ys) (suc i) (inr m) = inr (Member-front x ys i m)

pub contains-front : {A : Type 0} (xs : List A) (i : ℕ) (x : A) → Contains (take i xs) x → Contains xs x
contains-front xs i x c = Contains-from_member x xs (Member-front x xs i (Member-from_contains x (take i xs) c))

pub Member-parts : {A : Type 0} (x : A) (xs : List A) (i : ℕ) → Member x xs → Member x (take i xs) ⊎ Member x (drop i xs)
Member-parts x [] i m = absurd m
Member-parts x (y ∷ ys) zero m = inr m
Member-parts x (y ∷ ys) (suc i) (inl e) = inl (inl e)
Member-parts x (y ∷ ys) (suc i) (inr m) = elim (Member-parts x ys i m) [ inl here ↦ inl (inr here) | inr later ↦ inr later ]
