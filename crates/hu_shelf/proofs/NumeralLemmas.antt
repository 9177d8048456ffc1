-- A byte doesn't stand in what is written of a number.
use Rattle.std.proofs.Common.{◌≡◌, ℕ, ◌<◌, ◌^◌, List, decimal, ◌==◌, false}
use Rattle.std.specs.List.{All}
use Rattle.std.proofs.lemmas.List.Elements.{All-from_recursion}
use Rattle.hu_kind.proofs.lemmas.Written.{written-decimal}

-- a byte doesn't stand in a text
abbrev pub Lacks : ℕ → List ℕ → Type 0
Lacks byte text = All (λ b. (b == byte) ≡ false) text

pub decimal-lacks : (byte n : ℕ) → n < 2 ^ 127 → byte < 45 → Lacks byte (decimal n)
decimal-lacks byte n small low =
    All-from_recursion (λ b. (b == byte) ≡ false) (decimal n) ((written-decimal n small).low byte low)
