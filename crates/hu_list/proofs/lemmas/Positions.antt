-- The first element that passes a test.
use Rattle.std.proofs.Common.{[], ◌≤◌, ◌+◌, Bool, true, false, cond, not, List, ◌∷◌, length, arith, ◌≡◌, ltb, unwrap_or, inl, inr, refl}
use Rattle.std.specs.List.{position_or_len, position}
use Rattle.std.proofs.lemmas.Bool.{cases_lt, lt-ltb, le-ltb}

pub position_or_len-le : {A : Type 0} (p : A → Bool) (xs : List A) → position_or_len p xs ≤ length xs
position_or_len-le p [] = omega arith
position_or_len-le p (x ∷ xs) = by (p x) (position_or_len-le p xs)
  where
    by : (b : Bool) → position_or_len p xs ≤ length xs → cond (not b) (1 + position_or_len p xs) 0 ≤ length (x ∷ xs)
    by true ih = omega arith
    by false ih = omega arith

pub unwrap_or-position : {A : Type 0} (p : A → Bool) (xs : List A) → unwrap_or (position p xs) (length xs) ≡ position_or_len p xs
unwrap_or-position p xs = elim (cases_lt (position_or_len p xs) (length xs)) [
  | inl within ↦ let test : ltb (position_or_len p xs) (length xs) ≡ true = lt-ltb (position_or_len p xs) (length xs) within in rw test refl
  | inr past ↦
      let test : ltb (position_or_len p xs) (length xs) ≡ false = le-ltb (position_or_len p xs) (length xs) past in
      let most = position_or_len-le p xs in
      rw test (omega arith)
]
