-- What is written of a number is a token of one part.
use Rattle.std.proofs.Common.{◌≡◌, ℕ, ◌<◌, ◌^◌, ◌==◌, ℤ, pos, unsigned_abs, false, List, length, arith, decimal}
use Rattle.std.specs.Fmt.{signed_decimal}
use Rattle.std.specs.List.{All, AllByRecursion}
use Rattle.std.proofs.lemmas.List.Elements.{All-from_recursion}
use Rattle.hu_kind.proofs.lemmas.Written.{written-signed_decimal}

-- a byte doesn't stand in a text
abbrev pub Lacks : ℕ → List ℕ → Type 0
Lacks byte text = All (λ b. (b == byte) ≡ false) text

-- a token of one part
pub record IsToken (text : List ℕ) : Type 0 where
  pub some : 0 < length text
  pub no_space : Lacks 32 text
  pub no_colon : Lacks 58 text
  pub no_feed : Lacks 10 text

lacks : (z : ℤ) (byte : ℕ) → AllByRecursion (λ b. (b == byte) ≡ false) (signed_decimal z) → Lacks byte (signed_decimal z)
lacks z byte h = All-from_recursion (λ b. (b == byte) ≡ false) (signed_decimal z) h

pub IsToken-signed_decimal : (z : ℤ) → unsigned_abs z < 2 ^ 127 → IsToken (signed_decimal z)
IsToken-signed_decimal z small =
    let digits = written-signed_decimal z small in
    record {
      some = digits.some;
      no_space = lacks z 32 (digits.low 32 (omega arith));
      no_colon = lacks z 58 (digits.high 58 (omega arith));
      no_feed = lacks z 10 (digits.low 10 (omega arith));
    }

pub IsToken-decimal : (n : ℕ) → n < 2 ^ 127 → IsToken (decimal n)
IsToken-decimal n small = IsToken-signed_decimal (pos n) small
