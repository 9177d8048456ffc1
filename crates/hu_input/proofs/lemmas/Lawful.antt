-- What holds of the record of each accepted line holds of each record of the input.
use Rattle.std.proofs.Common.{◌≡◌, ℕ, ◌+◌, ◌^◌, ℤ, nat_lt, Bool, true, false, cond, Option, None, Some, Result, Ok, Err}
use Rattle.std.proofs.Common.{List, [], ◌∷◌, ◌++◌, length, refl, ap, subst, sum_by}
use Rattle.std.specs.List.{AllByRecursion}
use Rattle.std.specs.Option.{option_map, option_map_or}
use Rattle.std.specs.Result.{result_map_both}
use Rattle.hu_kind.specs.Record.{absolute_of}
use Rattle.hu_kind.specs.Sequence.{IsSequence}
use Rattle.hu_kind.proofs.lemmas.Each.{each-append}
use Rattle.hu_lines.specs.declared.limits.LineFault.{LineFault}
use Rattle.hu_lines.specs.Limits.{refusal}
use Rattle.hu_lines.specs.Pieces.{pieces, line_of}
use Rattle.hu_lines.specs.Skipped.{is_skipped_line}
use Rattle.hu_seq.specs.Reading.{reading as seq_reading}
use Rattle.hu_seq.proofs.lemmas.Lawful.{reading-lawful}
use Rattle.hu_input.specs.declared.reason.Reason.{Reason}
use Rattle.hu_input.specs.declared.reason.Reason.TheVariants.{Sequence, SumTooLarge}
use Rattle.hu_input.specs.Formats.{sequence_reading}
use Rattle.hu_input.specs.Input.{Refusal, Unread, limit_reason, with_front, within_sum, line_record, piece_record}
use Rattle.hu_input.specs.Input.{after_line, records_from, records_of, after_file, content_length, input_from, input}

-- records with others in front of them are both
front-parts : {R E : Type 0} (front : List R) (rest : Result (List R) E) (records : List R)
    → with_front front rest ≡ Ok records
    → (later : List R) × (rest ≡ Ok later) × (front ++ later ≡ records)
front-parts front (Ok later) records h = (later, refl, cc)
front-parts front (Err e) records h = cc

module _ {R : Type 0} (reading : List ℕ → Result R Reason) (absolute : R → ℕ)
    (P : R → Type 0) (lawful : (line : List ℕ) (r : R) → reading line ≡ Ok r → P r) where
  within_sum-says : (sum : ℕ) (said : Result R Reason) (r : R)
      → within_sum reading absolute sum said ≡ Ok (Some r) → said ≡ Ok r
  within_sum-says sum (Err reason) r h = cc
  within_sum-says sum (Ok one) r h = ap Ok (by (nat_lt (sum + absolute one) (2 ^ 127)) h)
    where
      by : (b : Bool) → cond {A = Result (Option R) Reason} b (Ok (Some one)) (Err SumTooLarge) ≡ Ok (Some r) → one ≡ r
      by true h = cc
      by false h = cc

  line-lawful : (sum : ℕ) (line : List ℕ) (r : R) → line_record reading absolute sum line ≡ Ok (Some r) → P r
  line-lawful sum line r h = by (is_skipped_line line) h
    where
      by : (b : Bool) → cond b (Ok None) (within_sum reading absolute sum (reading line)) ≡ Ok (Some r) → P r
      by true h = cc
      by false h = lawful line r (within_sum-says sum (reading line) r h)

  piece-lawful : (number before sum : ℕ) (piece : List ℕ) (r : R)
      → piece_record reading absolute number before sum piece ≡ Ok (Some r) → P r
  piece-lawful number before sum piece r h = by (refusal number before piece) h
    where
      by : (limit : Option LineFault)
          → option_map_or (λ fault. Err (limit_reason fault)) limit (line_record reading absolute sum (line_of piece))
          ≡ Ok (Some r) → P r
      by None h = line-lawful sum (line_of piece) r h
      by (Some fault) h = cc

  after_line-lawful : (number sum : ℕ) (said : Result (Option R) Reason) (later : ℕ → Result (List R) Refusal)
      (records : List R) → ((r : R) → said ≡ Ok (Some r) → P r)
      → ((s : ℕ) (rest : List R) → later s ≡ Ok rest → AllByRecursion P rest)
      → after_line reading absolute number sum said later ≡ Ok records → AllByRecursion P records
  after_line-lawful number sum (Err reason) later records one more h = cc
  after_line-lawful number sum (Ok None) later records one more h = more sum records h
  after_line-lawful number sum (Ok (Some r)) later records one more h =
      let parts = front-parts (r ∷ []) (later (sum + absolute r)) records h in
      subst (AllByRecursion P) parts.2 (one r refl, more (sum + absolute r) parts.0 parts.1)

  pieces-lawful : (number before sum : ℕ) (pieces : List (List ℕ)) (records : List R)
      → records_from reading absolute number before sum pieces ≡ Ok records → AllByRecursion P records
  pieces-lawful number before sum [] records h = let none : [] ≡ records = cc in subst (AllByRecursion P) none tt
  pieces-lawful number before sum (piece ∷ later) records h =
      after_line-lawful number sum (piece_record reading absolute number before sum piece)
      (λ s. records_from reading absolute (number + 1) (before + length piece) s later) records
      (λ r. piece-lawful number before sum piece r)
      (λ s rest. pieces-lawful (number + 1) (before + length piece) s later rest) h

  content-lawful : (before sum : ℕ) (content : Option (List ℕ)) (records : List R)
      → option_map (records_of reading absolute before sum) content ≡ Some (Ok records) → AllByRecursion P records
  content-lawful before sum None records h = cc
  content-lawful before sum (Some content) records h = pieces-lawful 1 before sum (pieces content) records cc

  after_file-lawful : (name : List ℕ) (sum : ℕ) (said : Option (Result (List R) Refusal))
      (later : ℕ → Result (List R) Unread) (records : List R)
      → ((front : List R) → said ≡ Some (Ok front) → AllByRecursion P front)
      → ((s : ℕ) (rest : List R) → later s ≡ Ok rest → AllByRecursion P rest)
      → after_file reading absolute name sum said later ≡ Ok records → AllByRecursion P records
  after_file-lawful name sum None later records front more h = cc
  after_file-lawful name sum (Some (Err refused)) later records front more h = cc
  after_file-lawful name sum (Some (Ok first)) later records front more h =
      let total = sum + sum_by absolute first in
      let parts = front-parts first (later total) records h in
      subst (AllByRecursion P) parts.2 (each-append P first parts.0 (front first refl) (more total parts.0 parts.1))

  pub files-lawful : (contents : List ℕ → Option (List ℕ)) (before sum : ℕ) (names : List (List ℕ)) (records : List R)
      → input_from reading absolute contents before sum names ≡ Ok records → AllByRecursion P records
  files-lawful contents before sum [] records h = let none : [] ≡ records = cc in subst (AllByRecursion P) none tt
  files-lawful contents before sum (name ∷ names) records h =
      after_file-lawful name sum (option_map (records_of reading absolute before sum) (contents name))
      (λ s. input_from reading absolute contents (before + content_length reading absolute (contents name)) s names) records
      (λ front. content-lawful before sum (contents name) front)
      (λ s rest. files-lawful contents (before + content_length reading absolute (contents name)) s names rest) h

  -- all records of the files that are named
  pub input-lawful : (contents : List ℕ → Option (List ℕ)) (names : List (List ℕ)) (records : List R)
      → input reading absolute contents names ≡ Ok records → AllByRecursion P records
  input-lawful contents names records h = files-lawful contents 0 0 names records h

-- a reason of this program stands for a fault of the format
pub same-record : {R F : Type 0} (reason : F → Reason) (said : Result R F) (r : R)
    → result_map_both (λ one. one) reason said ≡ Ok r → said ≡ Ok r
same-record reason (Ok one) r h = cc
same-record reason (Err fault) r h = cc

-- all records of files of sequence lines are sequences
pub sequences-lawful : (contents : List ℕ → Option (List ℕ)) (names : List (List ℕ))
    (records : List (List (List (ℕ × ℤ))))
    → input sequence_reading (λ elements. sum_by absolute_of elements) contents names ≡ Ok records
    → AllByRecursion IsSequence records
sequences-lawful =
    input-lawful sequence_reading (λ elements. sum_by absolute_of elements) IsSequence
    (λ line one h. reading-lawful line one (same-record Sequence (seq_reading line) one h))
