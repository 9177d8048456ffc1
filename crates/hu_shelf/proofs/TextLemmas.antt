-- Texts that are cut at a byte.
use Rattle.std.proofs.Common.{◌≡◌, ℕ, suc, add-one, ◌+◌, ◌≤◌, ◌==◌, Bool, true, false, not, None, Some, List, [], ◌∷◌}
use Rattle.std.proofs.Common.{◌++◌, position, ◌-◌, length, take, drop, refl, ap, sym, ◌∙◌, arith}
use Rattle.std.specs.Bool.{then_some}
use Rattle.std.specs.List.{list_all, position_or_len}
use Rattle.std.proofs.lemmas.Bool.Decides.{nat_tests}
use Rattle.std.proofs.lemmas.List.{take_all, drop_all, length-drop}
use Rattle.std.proofs.lemmas.Bool.{eq-eqb, and_parts, not-true}
use Rattle.std.proofs.lemmas.List.Elements.{All-nil, All-cons, All-head, All-tail}
use Rattle.hu_shelf.specs.Store.{before_byte, after_byte}
use Rattle.hu_shelf.proofs.NumeralLemmas.{Lacks}

-- the byte's first place is after a text without it
position-lacks : (c : ℕ) (xs ys : List ℕ) → Lacks c xs → position_or_len (λ b. b == c) (xs ++ c ∷ ys) ≡ length xs
position-lacks c [] ys lacks = rw (eq-eqb c c refl) refl
position-lacks c (x ∷ xs) ys lacks =
    let more = position-lacks c xs ys (All-tail (λ b. (b == c) ≡ false) x xs lacks) in
    rw (All-head (λ b. (b == c) ≡ false) x xs lacks) (omega arith)

take-front : (xs ys : List ℕ) → take (length xs) (xs ++ ys) ≡ xs
take-front [] ys = refl
take-front (x ∷ xs) ys = ap (λ more. x ∷ more) (take-front xs ys)

drop-front : (c : ℕ) (xs ys : List ℕ) → drop (suc (length xs)) (xs ++ c ∷ ys) ≡ ys
drop-front c [] ys = refl
drop-front c (x ∷ xs) ys = drop-front c xs ys

pub before_byte-lacks : (c : ℕ) (xs ys : List ℕ) → Lacks c xs → before_byte c (xs ++ c ∷ ys) ≡ xs
before_byte-lacks c xs ys lacks = ap (λ n. take n (xs ++ c ∷ ys)) (position-lacks c xs ys lacks) ∙ take-front xs (c ∷ ys)

pub after_byte-lacks : (c : ℕ) (xs ys : List ℕ) → Lacks c xs → after_byte c (xs ++ c ∷ ys) ≡ ys
after_byte-lacks c xs ys lacks =
    ap (λ n. drop (n + 1) (xs ++ c ∷ ys)) (position-lacks c xs ys lacks)
    ∙ ap (λ n. drop n (xs ++ c ∷ ys)) (add-one (length xs)) ∙ drop-front c xs ys

-- what is given on a test that passes
pub then_some-given : {T : Type 0} (b : Bool) (x y : T) → then_some b x ≡ Some y → (b ≡ true) × (x ≡ y)
then_some-given true x y given = (refl, cc)
then_some-given false x y given = absurd (cc)

-- a text that lacks a byte, by computation
pub lacks_by_test : (c : ℕ) (text : List ℕ) → list_all (λ b. not (b == c)) text ≡ true → Lacks c text
lacks_by_test c [] test = All-nil (λ b. (b == c) ≡ false)
lacks_by_test c (b ∷ bs) test =
    let parts = and_parts (not (b == c)) (list_all (λ b. not (b == c)) bs) test in
    All-cons (λ b. (b == c) ≡ false) b bs (not-true (b == c) parts.0) (lacks_by_test c bs parts.1)

-- ---- a text is cut at the byte's first place

is_first : (c : ℕ) (text : List ℕ) (place : ℕ) → position (λ b. b == c) text ≡ Some place → place ≡ position_or_len (λ b. b == c) text
is_first c text place found = grind (arith, nat_tests)

pub before_byte-at : (c : ℕ) (text : List ℕ) (place : ℕ) → position (λ b. b == c) text ≡ Some place → take place text ≡ before_byte c text
before_byte-at c text place found = ap (λ n. take n text) (is_first c text place found)

pub after_byte-at : (c : ℕ) (text : List ℕ) (place : ℕ) → position (λ b. b == c) text ≡ Some place
    → take (length text - (place + 1)) (drop (place + 1) text) ≡ after_byte c text
after_byte-at c text place found =
    take_all (length text - (place + 1)) (drop (place + 1) text) (omega (arith, length-drop (place + 1) text))
    ∙ ap (λ n. drop (n + 1) text) (is_first c text place found)

none_past : (c : ℕ) (text : List ℕ) → position (λ b. b == c) text ≡ None → length text ≤ position_or_len (λ b. b == c) text
none_past c text none = grind (arith, nat_tests)

pub before_byte-none : (c : ℕ) (text : List ℕ) → position (λ b. b == c) text ≡ None → text ≡ before_byte c text
before_byte-none c text none = sym (take_all (position_or_len (λ b. b == c) text) text (none_past c text none))

pub after_byte-none : (c : ℕ) (text : List ℕ) → position (λ b. b == c) text ≡ None → [] ≡ after_byte c text
after_byte-none c text none = sym (drop_all (position_or_len (λ b. b == c) text + 1) text (omega (arith, none_past c text none)))
