-- Worked rows: small texts with their pieces, lines and refusals, by computation.
use Rattle.std.specs.Prelude.{◌≡◌, ℕ, true, false, Option, None, Some, Ok, Err, List, [], ◌∷◌, ◌++◌, refl}
use Rattle.std.specs.Option.{option_or}
use Rattle.hu_lines.specs.declared.limits.LineFault.{LineFault}
use Rattle.hu_lines.specs.declared.limits.LineFault.TheVariants.{LineTooLong, InputTooLarge}
use Rattle.hu_lines.specs.Pieces.{pieces, lines}
use Rattle.hu_lines.specs.Limits.{refusal_under}
use Rattle.hu_lines.specs.Lines.{State}
use Rattle.hu_lines.specs.Cuts.{lines_of_cuts}
use Rattle.hu_lines.specs.Skipped.{is_skipped_line}

-- a line feed ends its piece, and bytes after the last one are a piece
pub pieces_of_three : pieces (97 ∷ 13 ∷ 10 ∷ 10 ∷ 98 ∷ []) ≡ (97 ∷ 13 ∷ 10 ∷ []) ∷ (10 ∷ []) ∷ (98 ∷ []) ∷ []
pieces_of_three = refl

-- nothing comes after a line feed at the end
pub no_empty_last_piece : pieces (97 ∷ 10 ∷ []) ≡ (97 ∷ 10 ∷ []) ∷ []
no_empty_last_piece = refl

-- one carriage return goes with the line feed, and from the end of the last piece; others stay
pub lines_of_three : lines (13 ∷ 97 ∷ 13 ∷ 13 ∷ 10 ∷ 10 ∷ 98 ∷ 13 ∷ [])
    ≡ (13 ∷ 97 ∷ 13 ∷ []) ∷ [] ∷ (98 ∷ []) ∷ []
lines_of_three = refl

-- under limits of 3 bytes a line and 10 a run, a line of 3 bytes with its line feed is taken
pub longest_line : refusal_under 3 10 1 0 (97 ∷ 97 ∷ 97 ∷ 10 ∷ []) ≡ None
longest_line = refl

-- its fourth byte is refused
pub too_long : refusal_under 3 10 1 0 (97 ∷ 97 ∷ 97 ∷ 97 ∷ []) ≡ Some (LineTooLong 1)
too_long = refl

-- so it is where it is also byte 11 of the run
pub too_long_at_the_end : refusal_under 3 10 2 7 (97 ∷ 97 ∷ 97 ∷ 97 ∷ []) ≡ Some (LineTooLong 2)
too_long_at_the_end = refl

-- where byte 11 of the run comes first, the input is too large
pub too_large_first : refusal_under 3 10 2 8 (97 ∷ 97 ∷ 97 ∷ 97 ∷ []) ≡ Some (InputTooLarge 2)
too_large_first = refl

-- a line feed counts for the run, and not for its line
pub line_feed_too_large : refusal_under 3 10 2 7 (97 ∷ 97 ∷ 97 ∷ 10 ∷ []) ≡ Some (InputTooLarge 2)
line_feed_too_large = refl

-- byte 10 of the run is taken
pub last_of_the_run : refusal_under 3 10 2 7 (97 ∷ 97 ∷ 97 ∷ []) ≡ None
last_of_the_run = refl

-- a line of spaces is skipped
pub skips_spaces : is_skipped_line (32 ∷ 32 ∷ []) ≡ true
skips_spaces = refl

-- a mark after a space skips nothing
pub mark_after_a_space : is_skipped_line (32 ∷ 35 ∷ []) ≡ false
mark_after_a_space = refl

-- the answer to more bytes of a line under limits of 3 bytes a line and 10 a run
abbrev small : State → List ℕ → Option LineFault
small s taken = option_or s.refused (refusal_under 3 10 s.number s.before (s.bytes ++ taken))

-- a line that is cut in the middle is one line, and the next begins in the same cut
pub cut_in_the_middle : lines_of_cuts small 0 ((97 ∷ 13 ∷ []) ∷ (10 ∷ 98 ∷ []) ∷ []) ≡ Ok ((97 ∷ []) ∷ (98 ∷ []) ∷ [])
cut_in_the_middle = refl

-- a line of 3 bytes is taken, whose line feed comes in a later cut
pub longest_in_cuts : lines_of_cuts small 0 ((97 ∷ 97 ∷ []) ∷ (97 ∷ []) ∷ (10 ∷ []) ∷ []) ≡ Ok ((97 ∷ 97 ∷ 97 ∷ []) ∷ [])
longest_in_cuts = refl

-- a fourth byte is refused in one cut
pub too_long_in_one_cut : lines_of_cuts small 0 ((10 ∷ 97 ∷ 97 ∷ 97 ∷ 97 ∷ 10 ∷ []) ∷ []) ≡ Err (LineTooLong 2)
too_long_in_one_cut = refl

-- so it is where the same bytes come in three
pub too_long_in_three_cuts : lines_of_cuts small 0 ((10 ∷ 97 ∷ []) ∷ (97 ∷ 97 ∷ []) ∷ (97 ∷ 10 ∷ []) ∷ []) ≡ Err (LineTooLong 2)
too_long_in_three_cuts = refl
