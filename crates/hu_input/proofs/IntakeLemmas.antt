-- What taking in bytes makes of the outcome.
use Rattle.std.proofs.Common.{◌≡◌, ℕ, ◌+◌, ◌<◌, true, false, List, [], ◌∷◌, ◌++◌, length, drop, Result, Ok, Err, Option}
use Rattle.std.proofs.Common.{Some, None, refl, sym, ap, ◌∙◌, arith, append_assoc, append-nil, length-append}
use Rattle.std.specs.Option.{option_to_list, option_map_or}
use Rattle.std.proofs.lemmas.List.Sums.{sum_by_push}
use Rattle.hu_base.specs.Base.{carried_of, records_of, sum_of}
use Rattle.hu_lines.specs.declared.limits.LineFault.{LineFault}
use Rattle.hu_lines.specs.Pieces.{pieces, first_piece, has_line_feed, line_of}
use Rattle.hu_lines.specs.Limits.{refusal}
use Rattle.hu_lines.proofs.lemmas.PieceLemmas.{whole_piece_first, first_piece_first, first_piece-append, one_piece_of}
use Rattle.hu_lines.proofs.lemmas.LimitLemmas.{refusal_first}
use Rattle.hu_input.specs.declared.reason.Reason.{Reason}
use Rattle.hu_input.specs.Input.{Refusal, with_front, limit_reason, line_record, piece_record, after_line, records_from}
use Rattle.hu_input.specs.Intake.{outcome_at}

-- fronts one after the other
pub with_front-append : {R E : Type 0} (front more : List R) (rest : Result (List R) E)
    → with_front (front ++ more) rest ≡ with_front front (with_front more rest)
with_front-append front more (Ok records) = ap Ok (append_assoc front more records)
with_front-append front more (Err e) = refl

module _ {R : Type 0} (reading : List ℕ → Result R Reason) (absolute : R → ℕ) (number before : ℕ) (base : ℕ × List R) where
  -- bytes held are as good as bytes to come
  pub outcome_held : (bytes taken tail : List ℕ) → outcome_at reading absolute number before (bytes ++ taken) base tail
      ≡ outcome_at reading absolute number before bytes base (taken ++ tail)
  outcome_held bytes taken tail =
      ap (λ all. with_front (records_of base) (records_from reading absolute number before (sum_of absolute base) (pieces all))) (append_assoc bytes taken tail)

  -- the outcome where a first piece stands in front of others
  outcome_first : (piece : List ℕ) (later : List (List ℕ)) (all : List ℕ) → pieces all ≡ piece ∷ later
      → with_front (records_of base) (records_from reading absolute number before (sum_of absolute base) (pieces all))
      ≡ with_front (records_of base) (after_line reading absolute number (sum_of absolute base)
      (piece_record reading absolute number before (sum_of absolute base) piece)
      (λ s. records_from reading absolute (number + 1) (before + length piece) s later))
  outcome_first piece later all cut = ap (λ ps. with_front (records_of base) (records_from reading absolute number before (sum_of absolute base) ps)) cut

  -- a piece that passes no limit says what its line says
  piece_is_line : (piece : List ℕ) → refusal number before piece ≡ None
      → piece_record reading absolute number before (sum_of absolute base) piece
      ≡ line_record reading absolute (sum_of absolute base) (line_of piece)
  piece_is_line piece within =
      ap (λ r. option_map_or (λ fault. Err (limit_reason fault)) r
      (line_record reading absolute (sum_of absolute base) (line_of piece))) within

  sum_of-push : (one : R) → sum_of absolute (carried_of base, records_of base ++ one ∷ []) ≡ sum_of absolute base + absolute one
  sum_of-push one = omega (arith, sum_by_push absolute (records_of base) one)

  -- a line that was judged and joined
  line_joined : (next : ℕ × List R) (r : Option R) (later : ℕ → Result (List R) Refusal) → next ≡ (carried_of base, records_of base ++ option_to_list r)
      → with_front (records_of next) (later (sum_of absolute next))
      ≡ with_front (records_of base) (after_line reading absolute number (sum_of absolute base) (Ok r) later)
  line_joined next None later joined =
      let same : next ≡ base = joined ∙ ap (λ records. (carried_of base, records)) (append-nil (records_of base)) in
      ap (λ b. with_front (records_of b) (later (sum_of absolute b))) same
  line_joined next (Some one) later joined =
      ap (λ b. with_front (records_of b) (later (sum_of absolute b))) joined
      ∙ ap (λ sum. with_front (records_of base ++ one ∷ []) (later sum)) (sum_of-push one)
      ∙ with_front-append (records_of base) (one ∷ []) (later (sum_of absolute base + absolute one))

  -- a whole piece in front
  pieces_whole : (bytes taken tail : List ℕ) → first_piece (bytes ++ taken) ≡ bytes ++ taken → has_line_feed (bytes ++ taken) ≡ true
      → pieces (bytes ++ (taken ++ tail)) ≡ (bytes ++ taken) ∷ pieces tail
  pieces_whole bytes taken tail one ends = ap pieces (sym (append_assoc bytes taken tail)) ∙ whole_piece_first (bytes ++ taken) tail one ends

  -- a line that ended, passes no limit and was judged
  pub outcome_accepted : (bytes taken tail : List ℕ) (next : ℕ × List R) (r : Option R) → first_piece (bytes ++ taken)
      ≡ bytes ++ taken → has_line_feed (bytes ++ taken) ≡ true
      → refusal number before (bytes ++ taken) ≡ None → line_record reading absolute (sum_of absolute base) (line_of (bytes ++ taken)) ≡ Ok r
      → next ≡ (carried_of base, records_of base ++ option_to_list r)
      → outcome_at reading absolute (number + 1) (before + length (bytes ++ taken)) [] next tail
      ≡ outcome_at reading absolute number before bytes base (taken ++ tail)
  outcome_accepted bytes taken tail next r one ends within says joined =
      line_joined next r (λ s. records_from reading absolute (number + 1) (before + length (bytes ++ taken)) s (pieces tail)) joined
      ∙ sym (
      outcome_first (bytes ++ taken) (pieces tail) (bytes ++ (taken ++ tail)) (pieces_whole bytes taken tail one ends)
      ∙ ap (λ v. with_front (records_of base) (after_line reading absolute number (sum_of absolute base) v
      (λ s. records_from reading absolute (number + 1) (before + length (bytes ++ taken)) s (pieces tail))))
      (piece_is_line (bytes ++ taken) within ∙ says)
      )

  -- a line that ended, passes no limit and is refused
  pub outcome_refused : (bytes taken tail : List ℕ) (reason : Reason) → first_piece (bytes ++ taken) ≡ bytes ++ taken → has_line_feed (bytes ++ taken) ≡ true
      → refusal number before (bytes ++ taken) ≡ None → line_record reading absolute (sum_of absolute base) (line_of (bytes ++ taken)) ≡ Err reason
      → outcome_at reading absolute number before bytes base (taken ++ tail) ≡ Err (record { number = number; reason = reason })
  outcome_refused bytes taken tail reason one ends within says =
      outcome_first (bytes ++ taken) (pieces tail) (bytes ++ (taken ++ tail)) (pieces_whole bytes taken tail one ends)
      ∙ ap (λ v. with_front (records_of base) (after_line reading absolute number (sum_of absolute base) v
      (λ s. records_from reading absolute (number + 1) (before + length (bytes ++ taken)) s (pieces tail))))
      (piece_is_line (bytes ++ taken) within ∙ says)

  -- a line that passes a limit within the bytes to come
  pub outcome_limited : (bytes piece tail : List ℕ) (fault : LineFault) → has_line_feed bytes ≡ false → 0 < length piece
      → refusal number before (bytes ++ first_piece piece) ≡ Some fault
      → outcome_at reading absolute number before bytes base (piece ++ tail) ≡ Err (record { number = number; reason = limit_reason fault })
  outcome_limited bytes piece tail fault held some passed =
      let all = bytes ++ (piece ++ tail) in
      let begins : refusal number before (first_piece (bytes ++ piece)) ≡ Some fault =
      ap (refusal number before) (first_piece-append bytes piece held) ∙ passed in
      let stands : refusal number before (first_piece all) ≡ Some fault =
      ap (λ l. refusal number before (first_piece l)) (sym (append_assoc bytes piece tail))
      ∙ refusal_first number before (bytes ++ piece) tail fault begins in
      let any : 0 < length all = omega (arith, length-append bytes (piece ++ tail), length-append piece tail) in
      outcome_first (first_piece all) _ all (first_piece_first all any)
      ∙ ap (λ v. with_front (records_of base) (after_line reading absolute number (sum_of absolute base) v
      (λ s. records_from reading absolute (number + 1) (before + length (first_piece all)) s
      (pieces (drop (length (first_piece all)) all)))))
      (ap (λ r. option_map_or (λ f. Err (limit_reason f)) r (line_record reading absolute (sum_of absolute base) (line_of (first_piece all)))) stands)

  -- no line is held, and the file ends
  pub outcome_empty : outcome_at reading absolute number before [] base [] ≡ Ok (records_of base)
  outcome_empty = ap Ok (append-nil (records_of base))

  -- a last line without a line feed, which passes no limit and was judged
  pub outcome_last : (bytes : List ℕ) (next : ℕ × List R) (r : Option R) → first_piece bytes ≡ bytes → 0 < length bytes → refusal number before bytes ≡ None
      → line_record reading absolute (sum_of absolute base) (line_of bytes) ≡ Ok r → next ≡ (carried_of base, records_of base ++ option_to_list r)
      → outcome_at reading absolute number before bytes base [] ≡ Ok (records_of next)
  outcome_last bytes next r one some within says joined =
      outcome_first bytes [] (bytes ++ []) (ap pieces (append-nil bytes) ∙ one_piece_of bytes one some)
      ∙ ap (λ v. with_front (records_of base) (after_line reading absolute number (sum_of absolute base) v (λ _. Ok []))) (piece_is_line bytes within ∙ says)
      ∙ sym (line_joined next r (λ _. Ok []) joined)
      ∙ ap Ok (append-nil (records_of next))

  -- a last line without a line feed, which passes no limit and is refused
  pub outcome_last_refused : (bytes : List ℕ) (reason : Reason) → first_piece bytes ≡ bytes → 0 < length bytes → refusal number before bytes ≡ None
      → line_record reading absolute (sum_of absolute base) (line_of bytes) ≡ Err reason
      → outcome_at reading absolute number before bytes base [] ≡ Err (record { number = number; reason = reason })
  outcome_last_refused bytes reason one some within says =
      outcome_first bytes [] (bytes ++ []) (ap pieces (append-nil bytes) ∙ one_piece_of bytes one some)
      ∙ ap (λ v. with_front (records_of base) (after_line reading absolute number (sum_of absolute base) v (λ _. Ok []))) (piece_is_line bytes within ∙ says)
