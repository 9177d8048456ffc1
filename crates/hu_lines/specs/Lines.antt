-- What a `Lines` is seen as, and what its calls make of it.
use Rattle.std.specs.Prelude.{
  ◌≡◌,
  ◌⊎◌,
  ℕ,
  ◌+◌,
  ◌<◌,
  ◌≤◌,
  Bool,
  true,
  false,
  Option,
  None,
  List,
  [],
  ◌∷◌,
  ◌++◌,
  length,
  IsSome,
  if◌then◌else◌,
}
use Rattle.std.specs.Option.{option_or}
use Rattle.hu_lines.specs.declared.limits.LineFault.{LineFault}
use Rattle.hu_lines.specs.Pieces.{has_line_feed, first_piece}
use Rattle.hu_lines.specs.Limits.{refusal}

-- the bytes held of a line, with its line feed once it has ended; the number of that line in its file, from 1;
-- how many bytes of the run come before it; whether the file has ended; and the first refusal, where there was one
pub record State : Type 0 where
  pub bytes : List ℕ
  pub whole : Bool
  pub number : ℕ
  pub before : ℕ
  pub ended : Bool
  pub refused : Option LineFault

-- before the first byte of a run
abbrev pub at_start : State
at_start = record { bytes = []; whole = false; number = 1; before = 0; ended = false; refused = None }

-- at the start of a line, after the bytes held
abbrev pub at_line : ℕ → State → State
at_line number s = record s { bytes = []; whole = false; number = number; before = s.before + length s.bytes }

-- ready for a byte: where the line has ended, the next one has begun
abbrev pub begun : State → State
begun s = if s.whole then at_line (s.number + 1) s else s

-- with more bytes of the line, up to its line feed where that is among them
abbrev pub grown : State → List ℕ → State
grown s taken = record s { bytes = s.bytes ++ taken; whole = has_line_feed taken }

-- at the end of the file
abbrev pub at_end : State → State
at_end s = record s { ended = true }

-- at the start of the next file
abbrev pub at_next_file : State → State
at_next_file s = record (at_line 1 s) { ended = false }

-- the answer to more bytes of a line: the earlier refusal, else the limit that the line passes with them
abbrev pub refusal_of : State → List ℕ → Option LineFault
refusal_of s taken = option_or s.refused (refusal s.number s.before (s.bytes ++ taken))

-- the piece that has ended, where it has
abbrev pub ended_piece : State → List (List ℕ)
ended_piece s = if s.whole then s.bytes ∷ [] else []

-- a line can be read: it has ended, or the file has, and bytes stand after its last line feed
abbrev pub HasLine : State → Type 0
HasLine s = (s.whole ≡ true) ⊎ ((s.ended ≡ true) × (0 < length s.bytes))

-- what is so between any two calls: the bytes held are those of one piece, which passes no limit
pub record IsHeld (s : State) : Type 0 where
  pub one : first_piece s.bytes ≡ s.bytes
  pub whole : s.whole ≡ has_line_feed s.bytes
  pub within : refusal s.number s.before s.bytes ≡ None
  pub counted : s.before ≤ 268435456
  pub numbered : s.number ≤ s.before + 1
  pub unfinished : IsSome s.refused → s.whole ≡ false
