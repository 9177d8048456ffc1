-- The greater of two utilities, and utilities with a number or a sum in front.
use Rattle.std.proofs.Common.{◌≡◌, true, ℤ, ◌+ℤ◌, Option, None, Some, is_some, option_map, refl, sym, ap, ◌∙◌, ◌⊎◌, inl, inr, arith}
use Rattle.std.proofs.lemmas.Int.{ints, clamps}
use Rattle.hu_kind.specs.Sequence.{better}

pub better-none : (a : Option ℤ) → better a None ≡ a
better-none None = refl
better-none (Some x) = refl

pub better-assoc : (a b c : Option ℤ) → better (better a b) c ≡ better a (better b c)
better-assoc None b c = refl
better-assoc (Some x) None c = refl
better-assoc (Some x) (Some y) None = refl
better-assoc (Some x) (Some y) (Some z) = ap (λ n. Some n) (omega (arith, ints, clamps))

pub better-comm : (a b : Option ℤ) → better a b ≡ better b a
better-comm None b = sym (better-none b)
better-comm (Some x) None = refl
better-comm (Some x) (Some y) = ap (λ n. Some n) (omega (arith, ints, clamps))

-- the inner two of four change places
pub better-swap : (a b c d : Option ℤ) → better (better a b) (better c d) ≡ better (better a c) (better b d)
better-swap a b c d =
    better-assoc a b (better c d)
    ∙ ap (better a) (sym (better-assoc b c d) ∙ ap (λ o. better o d) (better-comm b c) ∙ better-assoc c b d)
    ∙ sym (better-assoc a c (better b d))

-- a number in front of the greater
pub map-better : (x : ℤ) (a b : Option ℤ) → option_map (λ u. x +ℤ u) (better a b) ≡ better (option_map (λ u. x +ℤ u) a) (option_map (λ u. x +ℤ u) b)
map-better x None b = refl
map-better x (Some y) None = refl
map-better x (Some y) (Some z) = ap (λ n. Some n) (omega (arith, ints, clamps))

-- a utility after a sum
abbrev pub plus : Option ℤ → Option ℤ → Option ℤ
plus None u = None
plus (Some x) u = option_map (λ y. x +ℤ y) u

pub plus-none : (a : Option ℤ) → plus a None ≡ None
plus-none None = refl
plus-none (Some x) = refl

pub plus-better : (a b u : Option ℤ) → plus (better a b) u ≡ better (plus a u) (plus b u)
plus-better None b u = refl
plus-better (Some x) None u = better-none-of (plus (Some x) u)
  where
    better-none-of : (v : Option ℤ) → v ≡ better v None
    better-none-of None = refl
    better-none-of (Some y) = refl
plus-better (Some x) (Some y) None = refl
plus-better (Some x) (Some y) (Some z) = ap (λ n. Some n) (omega (arith, ints, clamps))

pub better-plus : (a u v : Option ℤ) → plus a (better u v) ≡ better (plus a u) (plus a v)
better-plus None u v = refl
better-plus (Some x) None v = refl
better-plus (Some x) (Some y) None = refl
better-plus (Some x) (Some y) (Some z) = ap (λ n. Some n) (omega (arith, ints, clamps))

-- where one of two utilities is some, the greater is, and no other way
pub some_left : (a b : Option ℤ) → is_some a ≡ true → is_some (better a b) ≡ true
some_left None b h = cc
some_left (Some x) None h = refl
some_left (Some x) (Some y) h = refl

pub some_right : (a b : Option ℤ) → is_some b ≡ true → is_some (better a b) ≡ true
some_right None b h = h
some_right (Some x) None h = refl
some_right (Some x) (Some y) h = refl

pub some_cases : (a b : Option ℤ) → is_some (better a b) ≡ true → (is_some a ≡ true) ⊎ (is_some b ≡ true)
some_cases None b h = inr h
some_cases (Some x) b h = inl refl

pub some_map : (f : ℤ → ℤ) (a : Option ℤ) → is_some (option_map f a) ≡ is_some a
some_map f None = refl
some_map f (Some x) = refl
