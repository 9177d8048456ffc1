-- Orders of items, what stands after an item in one, and lists whose items stand in it one after the other.
use Rattle.std.proofs.Common.{◌≡◌, ℕ, Bool, true, false, cond, eqb, List, [], ◌∷◌, ◌++◌, refl, sym, subst, inl, inr, filter}
use Rattle.std.specs.List.{AllByRecursion}
use Rattle.std.proofs.lemmas.Bool.{cond_both, eq-eqb, eqb-true, ne_eqb}
use Rattle.hu_kind.proofs.lemmas.Each.{each-weaker}
use Rattle.hu_kind.proofs.lemmas.Members.{Member, Member-append_left, Member-append_right, Member-append_cases}
use Rattle.hu_kind.proofs.lemmas.Occurring.{at_member}
use Rattle.hu_kind.proofs.lemmas.Tests.{any-from_member}
use Rattle.hu_proof.specs.Bounds.{is_among, after}
use Rattle.hu_proof.specs.Places.{Apart, Follows}

pub member-among : (x : ℕ) (xs : List ℕ) → Member x xs → is_among x xs ≡ true
member-among x xs m = any-from_member (λ i. eqb x i) x xs m (eq-eqb x x refl)

-- what stands after an item stands in the order
pub Member-after : (y x : ℕ) (xs : List ℕ) → Member y (after x xs) → Member y xs
Member-after y x [] m = absurd m
Member-after y x (z ∷ zs) m = cond_both (eqb x z) zs (after x zs) (λ ws. Member y ws → Member y (z ∷ zs)) (λ e n. inr n)
    (λ e n. inr (Member-after y x zs n)) m

pub Apart-after : (x : ℕ) (xs : List ℕ) → Apart xs → Apart (after x xs)
Apart-after x [] apart = tt
Apart-after x (z ∷ zs) apart = cond_both (eqb x z) zs (after x zs) Apart (λ e. apart.1) (λ e. Apart-after x zs apart.1)

pub not_after_itself : (x : ℕ) (xs : List ℕ) → Apart xs → Member x (after x xs) → ⊥
not_after_itself x [] apart m = m
not_after_itself x (z ∷ zs) apart m =
    cond_both (eqb x z) zs (after x zs) (λ ws. Member x ws → ⊥)
    (λ e n. apart.0 (subst (λ y. Member y zs) (eqb-true x z e) n))
    (λ e n. not_after_itself x zs apart.1 n)
    m

-- each of them stands in the order, and none twice
pub each-follows : (later xs : List ℕ) → Follows later xs → AllByRecursion (λ x. Member x later) xs
each-follows later [] f = tt
each-follows later (x ∷ xs) f = (
  f.0,
  each-weaker (λ y. Member y (after x later)) (λ y. Member y later) xs (λ y m. Member-after y x later m)
      (each-follows (after x later) xs f.1),
)

pub Apart-follows : (later xs : List ℕ) → Apart later → Follows later xs → Apart xs
Apart-follows later [] apart f = tt
Apart-follows later (x ∷ xs) apart f = (
  λ m. not_after_itself x later apart (at_member (λ y. Member y (after x later)) x xs (each-follows (after x later) xs f.1) m),
  Apart-follows (after x later) xs (Apart-after x later apart) f.1,
)

-- with one more item in front of the order
pub Follows-cons : (z : ℕ) (zs xs : List ℕ) → (Member z zs → ⊥) → Follows zs xs → Follows (z ∷ zs) xs
Follows-cons z zs [] out f = tt
Follows-cons z zs (x ∷ xs) out f =
    let other : eqb x z ≡ false = ne_eqb x z (λ e. out (subst (λ y. Member y zs) e f.0)) in
    (inr f.0, subst (λ b. Follows (cond b zs (after x zs)) xs) (sym other) f.1)

-- some of the items of an order follow in it
pub Follows-filter : (p : ℕ → Bool) (order : List ℕ) → Apart order → Follows order (filter p order)
Follows-filter p [] apart = tt
Follows-filter p (z ∷ zs) apart =
    let ih = Follows-filter p zs apart.1 in
    cond_both (p z) (z ∷ filter p zs) (filter p zs) (Follows (z ∷ zs))
    (λ e. (inl refl, subst (λ b. Follows (cond b zs (after z zs)) (filter p zs)) (sym (eq-eqb z z refl)) ih))
    (λ e. Follows-cons z zs (filter p zs) apart.0 ih)

-- a prefix and what stands after it, with one item more
pub Apart-grown : (xs later : List ℕ) (x : ℕ) → Apart (xs ++ later) → Member x later → Apart ((xs ++ x ∷ []) ++ after x later)
Apart-grown [] later x apart m = (not_after_itself x later apart, Apart-after x later apart)
Apart-grown (y ∷ ys) later x apart m = (
  λ n. apart.0 (elim (Member-append_cases y (ys ++ x ∷ []) (after x later) n) [
    | inl a ↦ elim (Member-append_cases y ys (x ∷ []) a) [
      | inl b ↦ Member-append_left y ys later b
      | inr c ↦ Member-append_right y ys later (only c)
    ]
    | inr d ↦ Member-append_right y ys later (Member-after y x later d)
  ]),
  Apart-grown ys later x apart.1 m,
)
  where
    only : Member y (x ∷ []) → Member y later
    only (inl e) = subst (λ z. Member z later) e m
    only (inr out) = absurd out

pub Apart-left : (xs ys : List ℕ) → Apart (xs ++ ys) → Apart xs
Apart-left [] ys apart = tt
Apart-left (x ∷ xs) ys apart = (λ m. apart.0 (Member-append_left x xs ys m), Apart-left xs ys apart.1)

pub Apart-right : (xs ys : List ℕ) → Apart (xs ++ ys) → Apart ys
Apart-right [] ys apart = apart
Apart-right (x ∷ xs) ys apart = Apart-right xs ys apart.1
