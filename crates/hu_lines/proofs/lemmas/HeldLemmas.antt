-- What the bytes that a `Lines` holds keep, from call to call.
use Rattle.std.proofs.Common.{◌≡◌, ℕ, ◌+◌, ◌<◌, ◌≤◌, Bool, true, false, inl, inr, length-append, List, [], ◌∷◌, ◌++◌}
use Rattle.std.proofs.Common.{length, drop, append_assoc, refl, sym, ap, ◌∙◌, arith, None}
use Rattle.std.specs.Prelude.{map}
use Rattle.std.specs.Option.{is_some}
use Rattle.std.proofs.lemmas.Bool.{false≢true}
use Rattle.hu_lines.specs.declared.limits.TheConstants.{LONGEST_LINE, LARGEST_INPUT}
use Rattle.hu_lines.specs.Pieces.{has_line_feed, first_piece, pieces, body_of, line_of, lines}
use Rattle.hu_lines.specs.Limits.{refusal}
use Rattle.hu_lines.specs.declared.lines.Lines.TheInside.{Inside}
use Rattle.hu_lines.specs.Held.{state_of, IsKept}
use Rattle.hu_lines.specs.Lines.{State, begun, ended_piece, IsHeld, HasLine}
use Rattle.hu_lines.specs.Laws.{HeldComesFirst, FedComesFirst}
use Rattle.hu_lines.proofs.lemmas.PieceLemmas.{has_line_feed-append, first_piece-append, first_piece_split, one_piece_of, whole_piece_first}
use Rattle.hu_lines.proofs.lemmas.LimitLemmas.{refusal-none, refusal-empty, length-body, line_feed-most, length-without_last-le}

-- the bytes held and those before them are within the run's limit
pub held_within : (s : State) → IsHeld s → s.before + length s.bytes ≤ LARGEST_INPUT
held_within s held = (refusal-none s.number s.before s.bytes held.counted held.one held.within).0

-- so it is of the fields
pub kept_within : (a : Inside) → IsKept a → a.before + length a.bytes.items ≤ LARGEST_INPUT
kept_within a kept = held_within (state_of a) kept.held

-- and the number of the line is small
pub kept_number : (a : Inside) → IsKept a → a.number ≤ LARGEST_INPUT + 1
kept_number a kept = omega (arith, kept_within a kept, kept.held.numbered)

-- there is room for more bytes of a line, where they pass no limit
pub kept_room : (a : Inside) (taken : List ℕ) → IsKept a → a.whole ≡ false → first_piece taken ≡ taken
    → refusal a.number a.before (a.bytes.items ++ taken) ≡ None
    → length a.bytes.items + length taken ≤ LONGEST_LINE + 1
kept_room a taken kept open_ one none =
    let held = a.bytes.items in
    let going : has_line_feed held ≡ false = sym kept.held.whole ∙ open_ in
    let whole : first_piece (held ++ taken) ≡ held ++ taken = first_piece-append held taken going ∙ ap (λ r. held ++ r) one in
    let both = (refusal-none a.number a.before (held ++ taken) kept.held.counted whole none).1 in
    omega (arith, both, length-append held taken, line_feed-most (held ++ taken))

-- bytes with a line feed are some
some_with_line_feed : (bytes : List ℕ) → has_line_feed bytes ≡ true → 0 < length bytes
some_with_line_feed [] ended = absurd (false≢true ended)
some_with_line_feed (b ∷ bs) ended = omega arith

-- a line that has ended has a byte
pub held_some : (s : State) → IsHeld s → s.whole ≡ true → 0 < length s.bytes
held_some s held ended = some_with_line_feed s.bytes (sym held.whole ∙ ended)

-- no bytes are held, within the run's limit
pub held_empty : (s : State) → s.bytes ≡ [] → s.whole ≡ false → s.before ≤ LARGEST_INPUT → s.number ≤ s.before + 1 → IsHeld s
held_empty s none open_ within numbered = record {
  one = rw none refl;
  whole = rw none open_;
  within = rw none (refusal-empty s.number s.before);
  counted = within;
  numbered = numbered;
  unfinished = λ _. open_;
}

-- more bytes of the line are held
pub held_grown : (s : State) (held taken : List ℕ) → s.bytes ≡ held ++ taken → has_line_feed held ≡ false → first_piece taken ≡ taken
    → s.whole ≡ has_line_feed taken → refusal s.number s.before (held ++ taken) ≡ None → s.before ≤ 268435456
    → s.number ≤ s.before + 1 → s.refused ≡ None → IsHeld s
held_grown s held taken is open_ one ends none counted numbered accepted = record {
  one = rw is (first_piece-append held taken open_ ∙ ap (λ r. held ++ r) one);
  whole = rw is (ends ∙ sym (has_line_feed-append held taken open_));
  within = rw is none;
  counted = counted;
  numbered = numbered;
  unfinished = λ some. absurd (false≢true (ap is_some (sym accepted) ∙ some));
}

-- a line that can be read is the one line of the bytes held
pub held_line : (s : State) → IsHeld s → HasLine s → lines s.bytes ≡ line_of s.bytes ∷ []
held_line s held has =
    elim has [
      | inl ended ↦ ap (map line_of) (one_piece_of s.bytes held.one (held_some s held ended))
      | inr rest ↦ ap
          (map line_of) (one_piece_of s.bytes held.one rest.1)
    ]

-- it isn't too long
pub held_short : (s : State) → IsHeld s → length (line_of s.bytes) ≤ LONGEST_LINE
held_short s held =
    let both = (refusal-none s.number s.before s.bytes held.counted held.one held.within).1 in
    omega (arith, both, length-body s.bytes held.one, length-without_last-le 13 (body_of s.bytes))

-- of what is held and what comes after it, the piece that has ended comes first
pub held_first : HeldComesFirst
held_first s rest held = first_by s.whole refl
  where
    first_by : (t : Bool) → s.whole ≡ t → pieces (s.bytes ++ rest) ≡ ended_piece s ++ pieces ((begun s).bytes ++ rest)
    first_by true ended = rw ended (whole_piece_first s.bytes rest held.one (sym held.whole ∙ ended))
    first_by false open_ = rw open_ refl

-- so it is of what was held, a piece that is fed, and what comes after it
pub fed_first : FedComesFirst
fed_first old now piece rest is held =
    let front = first_piece piece in
    let left = drop (length front) piece in
    let bytes : now.bytes ≡ (begun old).bytes ++ front = ap (λ s. s.bytes) is in
    let split : piece ++ rest ≡ front ++ (left ++ rest) = sym (ap (λ r. r ++ rest) (first_piece_split piece)) ∙ append_assoc front left rest in
    let all : (begun old).bytes ++ (piece ++ rest) ≡ now.bytes ++ (left ++ rest) =
    ap (λ r. (begun old).bytes ++ r) split ∙ (sym (append_assoc (begun old).bytes front (left ++ rest)) ∙ ap (λ r. r ++ (left ++ rest)) (sym bytes)) in
    ap pieces all ∙ held_first now (left ++ rest) held
