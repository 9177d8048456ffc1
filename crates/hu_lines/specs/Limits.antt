-- The limits of a line and of a run: 1,048,576 bytes of a line before its line feed, 268,435,456 bytes of all files.
use Rattle.std.specs.Prelude.{
  ℕ,
  ◌+◌,
  ◌==◌,
  nat_lt,
  nat_le,
  not,
  ◌&&◌,
  Option,
  None,
  Some,
  List,
  [],
  ◌∷◌,
  if◌then◌else◌,
}
use Rattle.std.specs.Option.{option_or}
use Rattle.hu_lines.specs.declared.limits.LineFault.{LineFault}
use Rattle.hu_lines.specs.declared.limits.LineFault.TheVariants.{LineTooLong, InputTooLarge}

-- The limit that a byte of line `number` passes, after `at` bytes of its line and `before` bytes of the run: it makes
-- the line too long where that has `longest` already and it is no line feed, else the input too large
abbrev pub passed_by : (longest largest number at before byte : ℕ) → Option LineFault
passed_by longest largest number at before byte =
    if not (byte == 10) && nat_le longest at then Some (LineTooLong number)
    else if nat_le largest before then Some (InputTooLarge number)
    else None

-- the limit that the first of these bytes passes which passes one
abbrev pub first_passed : (longest largest number at before : ℕ) → List ℕ → Option LineFault
first_passed longest largest number at before [] = None
first_passed longest largest number at before (byte ∷ bytes) =
    option_or (passed_by longest largest number at before byte)
    (first_passed longest largest number (at + 1) (before + 1) bytes)

-- the refusal of a piece, whole or not yet ended: it is of line `number`, and begins after `before` bytes of the run
abbrev pub refusal_under : ℕ → ℕ → ℕ → ℕ → List ℕ → Option LineFault
refusal_under longest largest number before piece = first_passed longest largest number 0 before piece

-- the same under the limits of this program
unfoldable pub refusal : ℕ → ℕ → List ℕ → Option LineFault
refusal number before piece = refusal_under 1048576 268435456 number before piece

-- the same by numbers of bytes: the line has `body` bytes before its line feed and `all` with it, so far
abbrev pub refusal_by_counts : ℕ → ℕ → ℕ → ℕ → ℕ → ℕ → Option LineFault
refusal_by_counts longest largest number before body all =
    if nat_lt longest body && nat_le (before + longest) largest then Some (LineTooLong number)
    else if nat_lt largest (before + all) then Some (InputTooLarge number)
    else None
