-- Digits, what a text of them says, and why a text says no number.
use Rattle.std.proofs.Common.{◌≡◌, ℕ, zero, suc, ◌+◌, ◌*◌, ◌-◌, ◌<◌, ◌≤◌, ◌^◌, ◌==◌, Bool, true, false, not, nat_lt}
use Rattle.std.proofs.Common.{Option, None, Some, Ok, Err, List, [], ◌∷◌, length, get_or, take, drop, refl, ◌⊎◌, inl}
use Rattle.std.proofs.Common.{inr, arith}
use Rattle.std.specs.Char.{is_ascii_digit, digit_value}
use Rattle.std.specs.Int.{IsInRange}
use Rattle.std.specs.List.{position_or_len}
use Rattle.std.specs.Option.{option_map_or}
use Rattle.std.specs.Str.Parse.{AllDigits, digits_value}
use Rattle.std.proofs.lemmas.Bool.Decides.{nat_tests}
use Rattle.std.proofs.lemmas.Int.Digits.{digits_value_more, digits_value-lt, digits_more}
use Rattle.std.proofs.lemmas.List.{length-drop, length-take-le, take_all}
use Rattle.std.proofs.lemmas.List.Sums.{fails_before_first}
use native.Mathlib.Nat.{pow-le-pow_right}
use Rattle.std.proofs.lemmas.Str.{digit_value_digit}
use Rattle.std.proofs.lemmas.Str.Parse.{digit_from_value, digits_value-take-le}
use Rattle.hu_kind.specs.declared.number.NumberFault.TheVariants.{NotDigit, TooLarge}
use Rattle.hu_kind.specs.Number.{digits_from, other_place, value_of_digits}

pub digit_not : (b byte : ℕ) → digit_value b < 10 → byte < 48 → (b == byte) ≡ false
digit_not b byte digit low = let range = digit_from_value b digit in grind (arith, nat_tests)

pub digit_not_above : (b byte : ℕ) → digit_value b < 10 → 57 < byte → (b == byte) ≡ false
digit_not_above b byte digit high = let range = digit_from_value b digit in grind (arith, nat_tests)

pub digit_passes : (b : ℕ) → digit_value b < 10 → not (is_ascii_digit b) ≡ false
digit_passes b digit = let range = digit_from_value b digit in grind (arith, nat_tests)

digit_range : (b : ℕ) → is_ascii_digit b ≡ true → IsInRange 48 57 b
digit_range b h = grind (arith, nat_tests)

-- ---- the digits in front of a text

-- one more digit
pub record IsNextDigit (text : List ℕ) (i : ℕ) : Type 0 where
  pub range : IsInRange 48 57 (get_or text i 0)
  pub digits : AllDigits 10 (take (i + 1) text)
  pub value : digits_value 10 (take (i + 1) text) ≡ digits_value 10 (take i text) * 10 + (get_or text i 0 - 48)

pub next_digit : (text : List ℕ) (i : ℕ) → i < length text → AllDigits 10 (take i text) → is_ascii_digit (get_or text i 0) ≡ true → IsNextDigit text i
next_digit text i within digits is =
    let range = digit_range (get_or text i 0) is in
    let value = digit_value_digit (get_or text i 0) range in
    record {
      range = range;
      digits = digits_more 10 text i within digits (omega arith);
      value = omega (arith, digits_value_more 10 text i within);
    }

-- so many digits say so much
pub front-small : (text : List ℕ) (n k : ℕ) → AllDigits 10 (take n text) → n ≤ length text → n ≤ k → digits_value 10 (take n text) < 10 ^ k
front-small text n k digits within few =
    let short : length (take n text) ≤ k = omega (arith, length-take-le n text within) in
    omega (arith, digits_value-lt 10 (take n text) digits, pow-le-pow_right {n = 10} (omega arith) short)

others_later : (text : List ℕ) (from : ℕ) → from ≤ length text → AllDigits 10 (take from text)
    → position_or_len (λ b. not (is_ascii_digit b)) text ≡ from + position_or_len (λ b. not (is_ascii_digit b)) (drop from text)
others_later text zero within digits = omega arith
others_later [] (suc from) within digits = absurd (omega arith)
others_later (d ∷ ds) (suc from) within digits =
    let passes = digit_passes d digits.0 in
    let rest = others_later ds from (omega arith) digits.1 in
    rw passes (omega arith)

-- what is left of a text
pub left_all : (text : List ℕ) (from : ℕ) → take (length text - from) (drop from text) ≡ drop from text
left_all text from = take_all (length text - from) (drop from text) (omega (arith, length-drop from text))

-- the first byte that is no digit stands there
pub other_place-some : (text : List ℕ) (from place : ℕ) → from ≤ length text → AllDigits 10 (take from text)
    → other_place (take (length text - from) (drop from text)) ≡ Some place → other_place text ≡ Some (from + place)
other_place-some text from place within digits found =
    let later = others_later text from within digits in
    let size = length-drop from text in
    let here = rw (left_all text from) at found in
    grind (arith, nat_tests)

pub other_place-none : (text : List ℕ) (from : ℕ) → from ≤ length text → AllDigits 10 (take from text)
    → other_place (take (length text - from) (drop from text)) ≡ None → other_place text ≡ None
other_place-none text from within digits found =
    let later = others_later text from within digits in
    let size = length-drop from text in
    let here = rw (left_all text from) at found in
    grind (arith, nat_tests)

pub other_place-digits : (ds : List ℕ) → AllDigits 10 ds → other_place ds ≡ None
other_place-digits ds digits =
    let all = take_all (length ds) ds (omega arith) in
    let later = others_later ds (length ds) (omega arith) (rw all digits) in
    grind (arith, nat_tests)

-- ---- what a text says

-- digits are read as their value
pub digits_from-value : (at n : ℕ) (ds : List ℕ) → 0 < length ds → AllDigits 10 ds → length ds ≤ 39 → digits_value 10 ds
    ≡ n → n < 2 ^ 127 → digits_from at ds ≡ Ok n
digits_from-value at n [] some digits short value small = absurd (omega (arith, some))
digits_from-value at n (d ∷ ds) some digits short value small =
    let none : other_place (d ∷ ds) ≡ None = other_place-digits (d ∷ ds) digits in
    let few : nat_lt 39 (length (d ∷ ds)) ≡ false = grind (arith, nat_tests) in
    let fits : nat_lt n (2 ^ 127) ≡ true = grind (arith, nat_tests) in
    rw (none, few, value, fits) refl

-- a text is no number where its digits are too many or too great
pub digits_from-fault : (at : ℕ) (text : List ℕ) → 0 < length text → (other_place text ≡ None → (39 < length text) ⊎ (2 ^ 127 ≤ digits_value 10 text))
    → digits_from at text ≡ Err (option_map_or (λ place. NotDigit (at + place)) (other_place text) TooLarge)
digits_from-fault at [] some large = absurd (omega (arith, some))
digits_from-fault at (b ∷ bs) some large = by (other_place (b ∷ bs)) large
  where
    too_large : (39 < length (b ∷ bs)) ⊎ (2 ^ 127 ≤ digits_value 10 (b ∷ bs)) → value_of_digits (b ∷ bs) ≡ Err TooLarge
    too_large (inl many) = grind (arith, nat_tests)
    too_large (inr great) = grind (arith, nat_tests)

    by : (o : Option ℕ) → (o ≡ None → (39 < length (b ∷ bs)) ⊎ (2 ^ 127 ≤ digits_value 10 (b ∷ bs)))
        → option_map_or (λ place. Err (NotDigit (at + place))) o (value_of_digits (b ∷ bs)) ≡ Err (option_map_or (λ place. NotDigit (at + place)) o TooLarge)
    by None h = too_large (h refl)
    by (Some place) h = refl

-- where no byte is another one, each is a digit
pub digit_at : (text : List ℕ) (i : ℕ) → other_place text ≡ None → i < length text → is_ascii_digit (get_or text i 0) ≡ true
digit_at text i none within =
    let all : length text ≤ position_or_len (λ b. not (is_ascii_digit b)) text = grind (arith, nat_tests) in
    isn't (is_ascii_digit (get_or text i 0)) (fails_before_first (λ b. not (is_ascii_digit b)) text i 0 (omega arith))
  where
    isn't : (a : Bool) → not a ≡ false → a ≡ true
    isn't true h = refl
    isn't false h = cc

pub digits_value-front : (text : List ℕ) (i : ℕ) → digits_value 10 (take i text) ≤ digits_value 10 text
digits_value-front text i = digits_value-take-le 10 text i (omega arith)
