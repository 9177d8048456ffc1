-- What stands before and after the first element that passes a test.
use Rattle.std.proofs.Common.{◌≡◌, suc, ◌+◌, nat_lt, true, false, Bool, List, [], ◌∷◌, ◌++◌, length, take, drop, refl, ap, ◌∙◌, arith, None, Some, position}
use Rattle.std.proofs.Common.{length-append}
use Rattle.std.specs.List.{AllByRecursion, before_first, after_first, position_or_len, list_any}
use Rattle.std.proofs.lemmas.Bool.{lt-ltb, or_parts}
use Rattle.std.proofs.lemmas.Bool.Decides.{nat_tests}

first_place : {X : Type 0} (p : X → Bool) (x : X) (xs : List X) → p x ≡ true → position_or_len p (x ∷ xs) ≡ 0
first_place p x xs h = rw h refl

later_place : {X : Type 0} (p : X → Bool) (x : X) (xs : List X) → p x ≡ false → position_or_len p (x ∷ xs) ≡ suc (position_or_len p xs)
later_place p x xs h = rw h (omega arith)

-- the place of an element that passes, after some that don't
pub place-append : {X : Type 0} (p : X → Bool) (xs : List X) (y : X) (ys : List X) → AllByRecursion (λ x. p x ≡ false) xs → p y ≡ true
    → position_or_len p (xs ++ y ∷ ys) ≡ length xs
place-append p [] y ys all h = first_place p y ys h
place-append p (x ∷ xs) y ys all h = omega (arith, later_place p x (xs ++ y ∷ ys) all.0, place-append p xs y ys all.1 h)

pub position-append : {X : Type 0} (p : X → Bool) (xs : List X) (y : X) (ys : List X) → AllByRecursion (λ x. p x ≡ false) xs → p y ≡ true
    → position p (xs ++ y ∷ ys) ≡ Some (length xs)
position-append p xs y ys all h =
    let place = place-append p xs y ys all h in
    let within : nat_lt (length xs) (length (xs ++ y ∷ ys)) ≡ true = lt-ltb (length xs) (length (xs ++ y ∷ ys)) (omega (arith, length-append xs (y ∷ ys))) in
    rw (place, within) refl

place-none : {X : Type 0} (p : X → Bool) (xs : List X) → AllByRecursion (λ x. p x ≡ false) xs → position_or_len p xs ≡ length xs
place-none p [] all = refl
place-none p (x ∷ xs) all = omega (arith, later_place p x xs all.0, place-none p xs all.1)

pub position-none : {X : Type 0} (p : X → Bool) (xs : List X) → AllByRecursion (λ x. p x ≡ false) xs → position p xs ≡ None
position-none p xs all =
    let past : nat_lt (length xs) (length xs) ≡ false = grind (arith, nat_tests) in
    rw (place-none p xs all, past) refl

before_first-later : {X : Type 0} (p : X → Bool) (x : X) (xs : List X) → p x ≡ false → before_first p (x ∷ xs) ≡ x ∷ before_first p xs
before_first-later p x xs h = ap (λ k. take k (x ∷ xs)) (later_place p x xs h)

pub before_first-append : {X : Type 0} (p : X → Bool) (xs : List X) (y : X) (ys : List X) → AllByRecursion (λ x. p x ≡ false) xs → p y ≡ true
    → before_first p (xs ++ y ∷ ys) ≡ xs
before_first-append p [] y ys all h = ap (λ k. take k (y ∷ ys)) (first_place p y ys h)
before_first-append p (x ∷ xs) y ys all h =
    before_first-later p x (xs ++ y ∷ ys) all.0 ∙ ap (λ more. x ∷ more) (before_first-append p xs y ys all.1 h)

pub after_first-later : {X : Type 0} (p : X → Bool) (x : X) (xs : List X) → p x ≡ false → after_first p (x ∷ xs) ≡ after_first p xs
after_first-later p x xs h =
    let next : position_or_len p (x ∷ xs) + 1 ≡ suc (position_or_len p xs + 1) = omega (arith, later_place p x xs h) in
    ap (λ k. drop k (x ∷ xs)) next

pub after_first-here : {X : Type 0} (p : X → Bool) (x : X) (xs : List X) → p x ≡ true → after_first p (x ∷ xs) ≡ xs
after_first-here p x xs h =
    let next : position_or_len p (x ∷ xs) + 1 ≡ 1 = omega (arith, first_place p x xs h) in
    ap (λ k. drop k (x ∷ xs)) next

pub after_first-append : {X : Type 0} (p : X → Bool) (xs ys : List X) → AllByRecursion (λ x. p x ≡ false) xs → after_first p (xs ++ ys) ≡ after_first p ys
after_first-append p [] ys all = refl
after_first-append p (x ∷ xs) ys all = after_first-later p x (xs ++ ys) all.0 ∙ after_first-append p xs ys all.1

-- where no element passes, the test of all says so, and the other way round
pub any-none : {X : Type 0} (p : X → Bool) (xs : List X) → AllByRecursion (λ x. p x ≡ false) xs → list_any p xs ≡ false
any-none p [] all = refl
any-none p (x ∷ xs) all = rw all.0 (any-none p xs all.1)

pub none-any : {X : Type 0} (p : X → Bool) (xs : List X) → list_any p xs ≡ false → AllByRecursion (λ x. p x ≡ false) xs
none-any p [] h = tt
none-any p (x ∷ xs) h = let both = or_parts (p x) (list_any p xs) h in (both.0, none-any p xs both.1)
