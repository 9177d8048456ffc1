-- Bytes are cut into pieces: one for each line feed (byte 10), which ends it, and one more for the bytes after the
-- last line feed, where there are any. A piece without its line feed and one carriage return (byte 13) is a line.
use Rattle.std.specs.Prelude.{
  ℕ,
  ◌-◌,
  ◌==◌,
  Bool,
  List,
  [],
  ◌∷◌,
  map,
  length,
  take,
  slice_index,
  if◌then◌else◌,
}
use Rattle.std.specs.List.{list_any}

-- whether a line feed stands among bytes
abbrev pub has_line_feed : List ℕ → Bool
has_line_feed bytes = list_any (λ b. b == 10) bytes

-- bytes up to and with their first line feed, all of them where there is none
abbrev pub first_piece : List ℕ → List ℕ
first_piece [] = []
first_piece (b ∷ bs) = b ∷ (if b == 10 then [] else first_piece bs)

-- a byte in front of the first of some pieces
abbrev pub in_front : ℕ → List (List ℕ) → List (List ℕ)
in_front b [] = (b ∷ []) ∷ []
in_front b (p ∷ ps) = (b ∷ p) ∷ ps

-- the pieces of bytes
abbrev pub pieces : List ℕ → List (List ℕ)
pieces [] = []
pieces (b ∷ bs) = if b == 10 then (b ∷ []) ∷ pieces bs else in_front b (pieces bs)

-- bytes without one such byte at their end
abbrev pub without_last : ℕ → List ℕ → List ℕ
without_last b bytes =
    if slice_index bytes (length bytes - 1) == b then take (length bytes - 1) bytes else bytes

-- a piece without its line feed
abbrev pub body_of : List ℕ → List ℕ
body_of piece = without_last 10 piece

-- the line of a piece: its body, without one carriage return at its end
abbrev pub line_of : List ℕ → List ℕ
line_of piece = without_last 13 (body_of piece)

-- the lines of bytes
abbrev pub lines : List ℕ → List (List ℕ)
lines bytes = map line_of (pieces bytes)
