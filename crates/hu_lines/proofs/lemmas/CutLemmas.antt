-- What the calls give of a file that comes in cuts.
use Rattle.std.proofs.Common.{◌≡◌, ℕ, zero, suc, ◌+◌, ◌<◌, ◌≤◌, Bool, true, false, cond, Option, None, Some, List, [], ◌∷◌, ◌++◌}
use Rattle.std.proofs.Common.{length, drop, append_assoc, refl, sym, ap, subst, ◌∙◌, arith, append-nil, length-append, length-drop}
use Rattle.std.specs.Prelude.{Ok, Err, flat_map, map, nat_lt}
use Rattle.std.proofs.lemmas.Bool.Decides.{nat_tests}
use Rattle.std.specs.List.{concat}
use Rattle.std.proofs.lemmas.Grind.{flat_map-append}
use Rattle.hu_lines.specs.declared.limits.LineFault.{LineFault}
use Rattle.hu_lines.specs.Pieces.{has_line_feed, first_piece, pieces, line_of, lines}
use Rattle.hu_lines.specs.Limits.{refusal}
use Rattle.hu_lines.specs.Lines.{State, begun, grown, ended_piece, refusal_of}
use Rattle.hu_lines.specs.Cuts.{FileLines, unless_refused, after_pieces, at_file, last_piece, feeds, feeds_of}
use Rattle.hu_lines.specs.Cuts.{lines_of_feeds, lines_of_cuts, first_refusal, lines_within}
use Rattle.hu_lines.specs.Laws.{FedGivesLines}
use Rattle.hu_lines.proofs.lemmas.PieceLemmas.{first_piece_first, first_piece_split, first_piece_twice, first_piece-append}
use Rattle.hu_lines.proofs.lemmas.PieceLemmas.{has_line_feed-append, one_piece_of, whole_piece_first}
use Rattle.hu_lines.proofs.lemmas.LimitLemmas.{refusal_first, refusal-empty}

-- the lines of bytes from line `number` on, after `before` bytes of the run
abbrev lines_from : ℕ → ℕ → List ℕ → FileLines
lines_from number before bytes = unless_refused (first_refusal number before (pieces bytes)) (Ok (lines bytes))

-- what is so while nothing is refused
record IsGoing (s : State) : Type 0 where
  one : first_piece s.bytes ≡ s.bytes
  whole : s.whole ≡ has_line_feed s.bytes
  accepted : s.refused ≡ None
  within : refusal s.number s.before s.bytes ≡ None

after_pieces-first : (piece : List ℕ) (fault : Option LineFault) (rest : List (List ℕ))
    → after_pieces (piece ∷ []) (unless_refused fault (Ok rest)) ≡ unless_refused fault (Ok (line_of piece ∷ rest))
after_pieces-first piece None rest = refl
after_pieces-first piece (Some fault) rest = refl

after_pieces-none : (later : FileLines) → after_pieces [] later ≡ later
after_pieces-none (Ok rest) = refl
after_pieces-none (Err fault) = refl

-- the line that has ended comes first
lines_from-held : (s : State) (rest : List ℕ) → IsGoing s
    → after_pieces (ended_piece s) (lines_from (begun s).number (begun s).before ((begun s).bytes ++ rest)) ≡ lines_from s.number s.before (s.bytes ++ rest)
lines_from-held s rest going = by s.whole refl
  where
    by : (t : Bool) → s.whole ≡ t
        → after_pieces (ended_piece s) (lines_from (begun s).number (begun s).before ((begun s).bytes ++ rest)) ≡ lines_from s.number s.before (s.bytes ++ rest)
    by true ended =
        rw (ended, whole_piece_first s.bytes rest going.one (sym going.whole ∙ ended), going.within)
        (after_pieces-first s.bytes (first_refusal (s.number + 1) (s.before + length s.bytes) (pieces rest)) (lines rest))
    by false open_ = rw open_ (after_pieces-none (lines_from s.number s.before (s.bytes ++ rest)))

-- where the first piece is refused, that is all
lines_from-refused : (number before : ℕ) (bytes : List ℕ) (fault : LineFault) → 0 < length bytes
    → refusal number before (first_piece bytes) ≡ Some fault → lines_from number before bytes ≡ Err fault
lines_from-refused number before bytes fault some is = rw (first_piece_first bytes some, is) refl

-- what is refused has a byte
refused_some : (number before : ℕ) (piece : List ℕ) (fault : LineFault) → refusal number before piece ≡ Some fault → 0 < length piece
refused_some number before [] fault is = let none = refusal-empty number before in absurd (cc)
refused_some number before (b ∷ bs) fault is = omega arith

-- a call of `feed`, where no line has ended and nothing is refused
module _ (s : State) (open_ : has_line_feed s.bytes ≡ false) (accepted : s.refused ≡ None) where
  fed_once : (taken rest : List ℕ) (later : FileLines) → first_piece taken ≡ taken
      → (IsGoing (grown s taken)
      → later ≡ lines_from (begun (grown s taken)).number (begun (grown s taken)).before ((begun (grown s taken)).bytes ++ rest))
      → unless_refused (refusal_of s taken) (after_pieces (ended_piece (grown s taken)) later) ≡ lines_from s.number s.before (s.bytes ++ (taken ++ rest))
  fed_once taken rest later one next = by (refusal s.number s.before piece) refl
    where
      piece : List ℕ
      piece = s.bytes ++ taken

      whole : first_piece piece ≡ piece
      whole = first_piece-append s.bytes taken open_ ∙ ap (λ r. s.bytes ++ r) one

      joined : piece ++ rest ≡ s.bytes ++ (taken ++ rest)
      joined = append_assoc s.bytes taken rest

      by : (fault : Option LineFault) → refusal s.number s.before piece ≡ fault
          → unless_refused (refusal_of s taken) (after_pieces (ended_piece (grown s taken)) later) ≡ lines_from s.number s.before (s.bytes ++ (taken ++ rest))
      by None within =
          let going : IsGoing (grown s taken) = record {
            one = whole;
            whole = sym (has_line_feed-append s.bytes taken open_);
            accepted = accepted;
            within = within;
          } in
          rw (accepted, within, next going, ← joined) (lines_from-held (grown s taken) rest going)
      by (Some fault) is =
          let P = λ (first : List ℕ). refusal s.number s.before first ≡ Some fault in
          let some : 0 < length (piece ++ rest) = omega (arith, length-append piece rest, refused_some s.number s.before piece fault is) in
          let first = refusal_first s.number s.before piece rest fault (subst P (sym whole) is) in
          rw (accepted, is, ← joined) (sym (lines_from-refused s.number s.before (piece ++ rest) fault some first))

-- a line that has ended is left, and one that hasn't has no line feed
begun_open : (s : State) → IsGoing s → has_line_feed (begun s).bytes ≡ false
begun_open s going = by s.whole refl
  where
    by : (t : Bool) → s.whole ≡ t → has_line_feed (begun s).bytes ≡ false
    by true ended = rw ended refl
    by false open_ = rw open_ (sym going.whole ∙ open_)

begun_accepted : (s : State) → IsGoing s → (begun s).refused ≡ None
begun_accepted s going = by s.whole refl
  where
    by : (t : Bool) → s.whole ≡ t → (begun s).refused ≡ None
    by true ended = rw ended going.accepted
    by false open_ = rw open_ going.accepted

-- bytes without a line feed are the last line, where there are any
last_line : (number before : ℕ) (bytes : List ℕ) → first_piece bytes ≡ bytes → refusal number before bytes ≡ None
    → Ok (map line_of (cond (nat_lt 0 (length bytes)) (bytes ∷ []) [])) ≡ lines_from number before bytes
last_line number before [] one within = refl
last_line number before (b ∷ bs) one within =
    let some : nat_lt 0 (length (b ∷ bs)) ≡ true = grind (arith, nat_tests) in
    rw (some, one_piece_of (b ∷ bs) one (omega arith), within) refl

-- at the end what is held is the last line
lines_at_end : (s : State) → IsGoing s → Ok (map line_of (last_piece s)) ≡ lines_from (begun s).number (begun s).before ((begun s).bytes ++ [])
lines_at_end s going = by s.whole refl
  where
    by : (t : Bool) → s.whole ≡ t → Ok (map line_of (last_piece s)) ≡ lines_from (begun s).number (begun s).before ((begun s).bytes ++ [])
    by true ended = rw ended refl
    by false open_ = rw (open_, append-nil s.bytes) (last_line s.number s.before s.bytes going.one going.within)

-- what calls give
lines_of_feeds-going : (s : State) (calls : List (List ℕ)) → IsGoing s
    → lines_of_feeds refusal_of s calls ≡ lines_from (begun s).number (begun s).before ((begun s).bytes ++ flat_map first_piece calls)
lines_of_feeds-going s [] going = lines_at_end s going
lines_of_feeds-going s (bytes ∷ later) going =
    let taken = first_piece bytes in
    let now = grown (begun s) taken in
    fed_once (begun s) (begun_open s going) (begun_accepted s going) taken (flat_map first_piece later) (lines_of_feeds refusal_of now later)
    (first_piece_twice bytes) (lines_of_feeds-going now later)

-- calls take all of a cut
taken-feeds : (calls : ℕ) (cut : List ℕ) → length cut ≤ calls → flat_map first_piece (feeds calls cut) ≡ cut
taken-feeds zero [] within = refl
taken-feeds zero (b ∷ bs) within = absurd (omega arith)
taken-feeds (suc calls) [] within = refl
taken-feeds (suc calls) (b ∷ bs) within =
    let left = drop (length (first_piece (b ∷ bs))) (b ∷ bs) in
    let less : length left ≤ calls = omega (arith, length-drop (length (first_piece (b ∷ bs))) (b ∷ bs)) in
    ap (λ r. first_piece (b ∷ bs) ++ r) (taken-feeds calls left less) ∙ first_piece_split (b ∷ bs)

taken-cuts : (cuts : List (List ℕ)) → flat_map first_piece (flat_map feeds_of cuts) ≡ concat cuts
taken-cuts [] = refl
taken-cuts (cut ∷ cuts) =
    flat_map-append first_piece (feeds_of cut) (flat_map feeds_of cuts)
    ∙ (ap (λ r. r ++ flat_map first_piece (flat_map feeds_of cuts)) (taken-feeds (length cut) cut (omega arith))
    ∙ ap (λ r. cut ++ r) (taken-cuts cuts))

-- a file that is fed gives the lines of its bytes, or the first refusal
pub fed_lines : FedGivesLines
fed_lines = record {
  feeds = of_feeds;
  cuts = of_cuts;
  same = λ before one other e. of_cuts before one ∙ (ap (lines_within before) e ∙ sym (of_cuts before other));
}
  where
    of_feeds : (before : ℕ) (calls : List (List ℕ)) → lines_of_feeds refusal_of (at_file before) calls ≡ lines_within before (flat_map first_piece calls)
    of_feeds before calls =
        lines_of_feeds-going (at_file before) calls (record { one = refl; whole = refl; accepted = refl; within = refusal-empty 1 before })

    of_cuts : (before : ℕ) (cuts : List (List ℕ)) → lines_of_cuts refusal_of before cuts ≡ lines_within before (concat cuts)
    of_cuts before cuts = of_feeds before (flat_map feeds_of cuts) ∙ ap (lines_within before) (taken-cuts cuts)
