-- A number that is written is read again, and what is written of it is one token.
use Rattle.std.proofs.Common.{◌≡◌, ℕ, suc, ◌<◌, ◌≤◌, ◌^◌, ◌==◌, ℤ, pos, negsuc, neg_ℤ, unsigned_abs, false, Ok, List}
use Rattle.std.proofs.Common.{[], ◌∷◌, length, slice_index, refl, ap, arith, decimal}
use Rattle.std.specs.Fmt.{signed_decimal}
use Rattle.std.specs.Int.{IsInRange}
use Rattle.std.specs.List.{AllByRecursion}
use Rattle.std.specs.Result.{result_map_both}
use Rattle.std.specs.Str.Parse.{AllDigits}
use Rattle.std.proofs.lemmas.Bool.Decides.{nat_tests}
use Rattle.std.proofs.lemmas.Fmt.{decimal_is_IsNumeral_wide, length-decimal-le_wide}
use Rattle.std.proofs.lemmas.Str.Parse.{digit_from_value}
use Rattle.hu_kind.proofs.lemmas.Numerals.{digit_not, digit_not_above, digits_from-value}
use Rattle.hu_kind.specs.Number.{number, signed_number, digits_from}

-- a byte doesn't stand in a text
abbrev pub Lacks : ℕ → List ℕ → Type 0
Lacks byte text = AllByRecursion (λ b. (b == byte) ≡ false) text

digits-lack_low : (byte : ℕ) (ds : List ℕ) → AllDigits 10 ds → byte < 48 → Lacks byte ds
digits-lack_low byte [] h low = tt
digits-lack_low byte (d ∷ ds) h low = (digit_not d byte h.0 low, digits-lack_low byte ds h.1 low)

digits-lack_high : (byte : ℕ) (ds : List ℕ) → AllDigits 10 ds → 57 < byte → Lacks byte ds
digits-lack_high byte [] h high = tt
digits-lack_high byte (d ∷ ds) h high = (digit_not_above d byte h.0 high, digits-lack_high byte ds h.1 high)

decimal_read : (at n : ℕ) → n < 2 ^ 127 → digits_from at (decimal n) ≡ Ok n
decimal_read at n small =
    let told = decimal_is_IsNumeral_wide n (omega arith) in
    digits_from-value at n (decimal n) told.0.0 told.0.1 (length-decimal-le_wide 39 n (omega arith) (omega arith) (omega arith)) told.1 small

pub number-decimal : (n : ℕ) → n < 2 ^ 127 → number (decimal n) ≡ Ok (pos n)
number-decimal n small = ap (result_map_both pos (λ fault. fault)) (decimal_read 0 n small)

no_minus : (ds : List ℕ) → AllDigits 10 ds → (slice_index ds 0 == 45) ≡ false
no_minus [] h = refl
no_minus (d ∷ ds) h = digit_not d 45 h.0 (omega arith)

pub signed_number-signed_decimal : (z : ℤ) → unsigned_abs z < 2 ^ 127 → signed_number (signed_decimal z) ≡ Ok z
signed_number-signed_decimal (pos n) small =
    let told = decimal_is_IsNumeral_wide n (omega (arith, small)) in
    rw (no_minus (decimal n) told.0.1) (number-decimal n small)
signed_number-signed_decimal (negsuc n) small = ap (result_map_both (λ m. neg_ℤ (pos m)) (λ fault. fault)) (decimal_read 1 (suc n) small)

-- what is written of a number: some bytes, and of them a byte below `0` only where it is the sign, and none above `9`
pub record IsWritten (text : List ℕ) : Type 0 where
  pub some : 0 < length text
  pub low : (byte : ℕ) → byte < 45 → Lacks byte text
  pub high : (byte : ℕ) → 57 < byte → Lacks byte text

pub written-decimal : (n : ℕ) → n < 2 ^ 127 → IsWritten (decimal n)
written-decimal n small =
    let told = decimal_is_IsNumeral_wide n (omega arith) in
    record {
      some = told.0.0;
      low = λ byte below. digits-lack_low byte (decimal n) told.0.1 (omega arith);
      high = λ byte above. digits-lack_high byte (decimal n) told.0.1 above;
    }

not_minus_low : (byte : ℕ) → byte < 45 → (45 == byte) ≡ false
not_minus_low byte below = grind (arith, nat_tests)

not_minus_high : (byte : ℕ) → 57 < byte → (45 == byte) ≡ false
not_minus_high byte above = grind (arith, nat_tests)

pub written-signed_decimal : (z : ℤ) → unsigned_abs z < 2 ^ 127 → IsWritten (signed_decimal z)
written-signed_decimal (pos n) small = written-decimal n small
written-signed_decimal (negsuc n) small =
    let digits = written-decimal (suc n) small in
    record {
      some = omega arith;
      low = λ byte below. (not_minus_low byte below, digits.low byte below);
      high = λ byte above. (not_minus_high byte above, digits.high byte above);
    }

-- it is written in so many bytes at most
pub length-item : (n : ℕ) → n < 2 ^ 127 → length (decimal n) ≤ 39
length-item n small = length-decimal-le_wide 39 n (omega arith) (omega arith) (omega arith)

pub length-value : (z : ℤ) → unsigned_abs z < 2 ^ 127 → length (signed_decimal z) ≤ 40
length-value (pos n) small = omega (arith, length-item n small)
length-value (negsuc n) small = omega (arith, length-item (suc n) small)

-- and begins with a digit where it has no sign
pub decimal-begins : (n : ℕ) → n < 2 ^ 127 → IsInRange 48 57 (slice_index (decimal n) 0)
decimal-begins n small = let told = decimal_is_IsNumeral_wide n (omega arith) in begins (decimal n) told.0.0 told.0.1
  where
    begins : (ds : List ℕ) → 0 < length ds → AllDigits 10 ds → IsInRange 48 57 (slice_index ds 0)
    begins [] some digits = absurd (omega (arith, some))
    begins (d ∷ ds) some digits = digit_from_value d digits.0
