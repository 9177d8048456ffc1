-- A file comes in cuts, whose bytes calls of `feed` take in turn, and then `end` is called: the lines that these calls
-- give, and those that the bytes have.
use Rattle.std.specs.Prelude.{
  ℕ,
  zero,
  suc,
  ◌+◌,
  nat_lt,
  not,
  ◌&&◌,
  Option,
  None,
  Some,
  Result,
  Ok,
  Err,
  List,
  [],
  ◌∷◌,
  ◌++◌,
  length,
  drop,
  map,
  flat_map,
  if◌then◌else◌,
}
use Rattle.std.specs.Option.{option_or}
use Rattle.hu_lines.specs.declared.limits.LineFault.{LineFault}
use Rattle.hu_lines.specs.Pieces.{first_piece, pieces, line_of, lines}
use Rattle.hu_lines.specs.Limits.{refusal}
use Rattle.hu_lines.specs.Lines.{State, at_start, begun, grown, ended_piece}

-- all lines of a file, or the first refusal
abbrev pub FileLines : Type 0
FileLines = Result (List (List ℕ)) LineFault

-- a refusal, where there is one, else what comes without
abbrev pub unless_refused : Option LineFault → FileLines → FileLines
unless_refused None without = without
unless_refused (Some fault) without = Err fault

-- the lines of these pieces, and then the later ones
abbrev pub after_pieces : List (List ℕ) → FileLines → FileLines
after_pieces front (Ok later) = Ok (map line_of front ++ later)
after_pieces front (Err fault) = Err fault

-- at the start of a file, after so many bytes of the run, as `new` and `next_file` leave it
abbrev pub at_file : ℕ → State
at_file before = record at_start { before = before }

-- the piece without a line feed, where `end` tells of one
abbrev pub last_piece : State → List (List ℕ)
last_piece s = if not s.whole && nat_lt 0 (length s.bytes) then s.bytes ∷ [] else []

-- what at most so many calls of `feed` are given of a cut: all of it, and then each time what the last one didn't take
abbrev pub feeds : ℕ → List ℕ → List (List ℕ)
feeds zero cut = []
feeds (suc calls) [] = []
feeds (suc calls) cut = cut ∷ feeds calls (drop (length (first_piece cut)) cut)

-- the same until nothing is left, since each call takes a byte at least
abbrev pub feeds_of : List ℕ → List (List ℕ)
feeds_of cut = feeds (length cut) cut

-- `refused` is the answer to more bytes of a line, as `refusal_of` is
module _ (refused : State → List ℕ → Option LineFault) where
  -- the lines of a file from a state on, where calls of `feed` are given these, and `end` comes after them
  abbrev pub lines_of_feeds : State → List (List ℕ) → FileLines
  lines_of_feeds s [] = Ok (map line_of (last_piece s))
  lines_of_feeds s (bytes ∷ later) =
      let taken = first_piece bytes in
      let now = grown (begun s) taken in
      unless_refused (refused (begun s) taken) (after_pieces (ended_piece now) (lines_of_feeds now later))

  -- the lines of a file that comes in these cuts, after so many bytes of the run
  abbrev pub lines_of_cuts : ℕ → List (List ℕ) → FileLines
  lines_of_cuts before cuts = lines_of_feeds (at_file before) (flat_map feeds_of cuts)

-- the first refusal of these pieces, which are numbered from `number` on and begin after `before` bytes of the run
abbrev pub first_refusal : ℕ → ℕ → List (List ℕ) → Option LineFault
first_refusal number before [] = None
first_refusal number before (piece ∷ later) =
    option_or (refusal number before piece) (first_refusal (number + 1) (before + length piece) later)

-- the lines of a file's bytes, or the refusal of the first line that passes a limit
abbrev pub lines_within : ℕ → List ℕ → FileLines
lines_within before bytes = unless_refused (first_refusal 1 before (pieces bytes)) (Ok (lines bytes))
