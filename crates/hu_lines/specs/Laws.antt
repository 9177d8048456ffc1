-- What holds of pieces, of lines and of refusals, whatever the bytes.
use Rattle.std.specs.Prelude.{◌≡◌, ℕ, ◌<◌, true, false, Some, List, [], ◌∷◌, ◌++◌, length, drop, flat_map}
use Rattle.std.specs.List.{concat}
use Rattle.hu_lines.specs.declared.limits.LineFault.{LineFault}
use Rattle.hu_lines.specs.Pieces.{has_line_feed, first_piece, pieces}
use Rattle.hu_lines.specs.Limits.{refusal}
use Rattle.hu_lines.specs.Lines.{State, begun, grown, ended_piece, refusal_of, IsHeld}
use Rattle.hu_lines.specs.Cuts.{at_file, lines_of_feeds, lines_of_cuts, lines_within}

-- bytes that end with their only line feed are a piece, and what follows them has its own
abbrev pub WholePieceComesFirst : Type 0
WholePieceComesFirst = (piece rest : List ℕ) → first_piece piece ≡ piece → has_line_feed piece
    ≡ true → pieces (piece ++ rest) ≡ piece ∷ pieces rest

-- bytes without a line feed are one piece, where there are any
abbrev pub RestIsOnePiece : Type 0
RestIsOnePiece = (rest : List ℕ) → has_line_feed rest ≡ false → 0 < length rest → pieces rest ≡ rest ∷ []

-- bytes have their first piece, and then the pieces of what is left
abbrev pub FirstPieceComesFirst : Type 0
FirstPieceComesFirst = (bytes : List ℕ) → 0 < length bytes → pieces bytes
    ≡ first_piece bytes ∷ pieces (drop (length (first_piece bytes)) bytes)

-- what is refused before its line ends stays refused, however the line goes on
abbrev pub RefusalStands : Type 0
RefusalStands = (number before : ℕ) (begun more : List ℕ) (fault : LineFault)
    → refusal number before begun ≡ Some fault → refusal number before (begun ++ more) ≡ Some fault

-- so it is of the first piece of bytes, whatever bytes come after them
abbrev pub FirstRefusalStands : Type 0
FirstRefusalStands = (number before : ℕ) (bytes more : List ℕ) (fault : LineFault)
    → refusal number before (first_piece bytes) ≡ Some fault
    → refusal number before (first_piece (bytes ++ more)) ≡ Some fault

-- of what a `Lines` holds and what comes after it, the piece that has ended comes first
abbrev pub HeldComesFirst : Type 0
HeldComesFirst = (s : State) (rest : List ℕ) → IsHeld s → pieces (s.bytes ++ rest)
    ≡ ended_piece s ++ pieces ((begun s).bytes ++ rest)

-- so it is of what was held, a piece that is fed, and what comes after it: what `now` holds has taken the front of the piece
abbrev pub FedComesFirst : Type 0
FedComesFirst = (old now : State) (piece rest : List ℕ) → now
    ≡ grown (begun old) (first_piece piece) → IsHeld now
    → pieces ((begun old).bytes ++ (piece ++ rest))
    ≡ ended_piece now ++ pieces ((begun now).bytes
    ++ (drop (length (first_piece piece)) piece ++ rest))

-- a file that is fed gives the lines of its bytes, or the refusal of the first line that passes a limit
pub record FedGivesLines : Type 0 where
  -- whatever the calls of `feed` are given: of the bytes that they take
  pub feeds : (before : ℕ) (feeds : List (List ℕ)) → lines_of_feeds refusal_of (at_file before) feeds
      ≡ lines_within before (flat_map first_piece feeds)
  -- in whatever cuts it comes: of all its bytes
  pub cuts : (before : ℕ) (cuts : List (List ℕ)) → lines_of_cuts refusal_of before cuts
      ≡ lines_within before (concat cuts)
  -- so two cuts of the same bytes give the same
  pub same : (before : ℕ) (one other : List (List ℕ)) → concat one ≡ concat other
      → lines_of_cuts refusal_of before one ≡ lines_of_cuts refusal_of before other
