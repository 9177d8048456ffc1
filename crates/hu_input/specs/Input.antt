-- The input of a job: the records of all its files in order, as one list, or the first line that is refused, or the
-- first file that isn't there. A line is judged after the bytes of the run that come before it, and after the absolute
-- sum of the records accepted before it.
use Rattle.std.specs.Prelude.{
  ℕ,
  ◌+◌,
  ◌^◌,
  nat_lt,
  Option,
  None,
  Some,
  Result,
  Ok,
  Err,
  List,
  [],
  ◌∷◌,
  ◌++◌,
  length,
  if◌then◌else◌,
}
use Rattle.std.specs.Option.{option_map, option_map_or}
use Rattle.std.specs.Result.{result_map_both}
use Rattle.std.specs.List.{sum_by}
use Rattle.hu_lines.specs.declared.limits.LineFault.{LineFault}
use Rattle.hu_lines.specs.declared.limits.LineFault.TheVariants as limit
use Rattle.hu_lines.specs.Pieces.{pieces, line_of}
use Rattle.hu_lines.specs.Limits.{refusal}
use Rattle.hu_lines.specs.Skipped.{is_skipped_line}
use Rattle.hu_input.specs.declared.reason.Reason.{Reason}
use Rattle.hu_input.specs.declared.reason.Reason.TheVariants.{LineTooLong, InputTooLarge, SumTooLarge}

-- a line that is refused: its number in its file, from 1, and the reason
pub record Refusal : Type 0 where
  pub number : ℕ
  pub reason : Reason

-- what keeps a job from its records
pub data Unread : Type 0 where
  refused_line : List ℕ → Refusal → Unread
  missing_file : List ℕ → Unread

-- the reason for a limit that is passed
abbrev pub limit_reason : LineFault → Reason
limit_reason (limit.LineTooLong number) = LineTooLong
limit_reason (limit.InputTooLarge number) = InputTooLarge

-- records, with others in front of them
abbrev pub with_front : {R E : Type 0} → List R → Result (List R) E → Result (List R) E
with_front front rest = result_map_both (λ records. front ++ records) (λ e. e) rest

module _ {R : Type 0} (reading : List ℕ → Result R Reason) (absolute : R → ℕ) where
  -- a record after an absolute sum: it is refused where the sum would pass 2 ^ 127 - 1
  abbrev pub within_sum : ℕ → Result R Reason → Result (Option R) Reason
  within_sum sum (Err reason) = Err reason
  within_sum sum (Ok r) = if nat_lt (sum + absolute r) (2 ^ 127) then Ok (Some r) else Err SumTooLarge

  -- what a line says after an absolute sum: nothing where it is skipped, else its record
  abbrev pub line_record : ℕ → List ℕ → Result (Option R) Reason
  line_record sum line = if is_skipped_line line then Ok None else within_sum sum (reading line)

  -- what a piece of a file says, as line `number` and after `before` bytes of the run: the limit that it passes comes first
  abbrev pub piece_record : ℕ → ℕ → ℕ → List ℕ → Result (Option R) Reason
  piece_record number before sum piece =
      option_map_or (λ fault. Err (limit_reason fault)) (refusal number before piece)
      (line_record sum (line_of piece))

  -- the records of a first line and of those after it, which are told the new sum
  abbrev pub after_line : ℕ → ℕ → Result (Option R) Reason → (ℕ → Result (List R) Refusal)
      → Result (List R) Refusal
  after_line number sum (Err reason) later = Err (record { number = number; reason = reason })
  after_line number sum (Ok None) later = later sum
  after_line number sum (Ok (Some r)) later = with_front (r ∷ []) (later (sum + absolute r))

  -- the records of the pieces of a file from line `number` on, or the first line that is refused
  abbrev pub records_from : ℕ → ℕ → ℕ → List (List ℕ) → Result (List R) Refusal
  records_from number before sum [] = Ok []
  records_from number before sum (piece ∷ later) =
      after_line number sum (piece_record number before sum piece)
      (λ s. records_from (number + 1) (before + length piece) s later)

  -- the records of a file
  abbrev pub records_of : ℕ → ℕ → List ℕ → Result (List R) Refusal
  records_of before sum content = records_from 1 before sum (pieces content)

  -- the records of a file and of those after it, which are told the new sum
  abbrev pub after_file : List ℕ → ℕ → Option (Result (List R) Refusal)
      → (ℕ → Result (List R) Unread) → Result (List R) Unread
  after_file name sum None later = Err (missing_file name)
  after_file name sum (Some (Err refusal)) later = Err (refused_line name refusal)
  after_file name sum (Some (Ok records)) later = with_front records (later (sum + sum_by absolute records))

  -- how many bytes a content has, none where it isn't there
  abbrev pub content_length : Option (List ℕ) → ℕ
  content_length None = 0
  content_length (Some content) = length content

  -- the records of files in order, after bytes and an absolute sum
  abbrev pub input_from : (List ℕ → Option (List ℕ)) → ℕ → ℕ → List (List ℕ) → Result (List R) Unread
  input_from contents before sum [] = Ok []
  input_from contents before sum (name ∷ names) =
      after_file name sum (option_map (records_of before sum) (contents name))
      (λ s. input_from contents (before + content_length (contents name)) s names)

  -- the input of the files that are named
  abbrev pub input : (List ℕ → Option (List ℕ)) → List (List ℕ) → Result (List R) Unread
  input contents names = input_from contents 0 0 names
