-- The one line in which a record is written.
use Rattle.std.specs.Prelude.{
  ◌≡◌,
  ◌≤◌,
  ◌==◌,
  false,
  length,
  slice_index,
  ℕ,
  zero,
  suc,
  ℤ,
  List,
  [],
  ◌∷◌,
  map,
  decimal,
}
use Rattle.std.specs.Fmt.{signed_decimal}
use Rattle.std.specs.Int.{IsInRange}
use Rattle.std.specs.List.{All, join_with_byte}
use Rattle.hu_kind.specs.Record.{total}

-- the items ascending, the plain sum and the values, with `:` (byte 58) between these and a space (byte 32) between numbers
abbrev pub canonical_line : List (ℕ × ℤ) → List ℕ
canonical_line cells = join_with_byte 58 (
    join_with_byte 32 (map (λ cell. decimal cell.0) cells)
    ∷ signed_decimal (total cells)
    ∷ join_with_byte 32 (map (λ cell. signed_decimal cell.1) cells)
    ∷ [])

-- what stands in front of the number at a place of a list
abbrev pub gap : ℕ → List ℕ
gap zero = []
gap (suc k) = 32 ∷ []

-- a line of at most 1,048,576 bytes without a line feed (byte 10) that begins with a digit, so that it isn't skipped
pub record IsPlainLine (line : List ℕ) : Type 0 where
  pub short : length line ≤ 1048576
  pub no_feed : All (λ byte. (byte == 10) ≡ false) line
  pub begins : IsInRange 48 57 (slice_index line 0)
