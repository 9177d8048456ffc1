-- Worked rows: the input of small files, by computation. A form of this file alone reads a line as the list of its
-- bytes, and refuses one that begins with `x`; the absolute sum of a record is the number of its bytes.
use Rattle.std.specs.Prelude.{
  ◌≡◌,
  ℕ,
  ◌-◌,
  ◌^◌,
  ◌==◌,
  Option,
  Result,
  Ok,
  Err,
  List,
  [],
  ◌∷◌,
  length,
  codes,
  slice_index,
  refl,
  if◌then◌else◌,
}
use Rattle.std.specs.Map.{lookup}
use Rattle.std.specs.Str.{bytes_eq}
use Rattle.hu_trans.specs.declared.fault.Fault.TheVariants.{NoItems}
use Rattle.hu_lines.specs.Limits.{refusal}
use Rattle.hu_input.specs.declared.reason.Reason.{Reason}
use Rattle.hu_input.specs.declared.reason.Reason.TheVariants.{InputTooLarge, Transaction, SumTooLarge}
use Rattle.hu_input.specs.Input.{refused_line, missing_file, input, input_from}

-- the form of lines of this file
abbrev pub reading : List ℕ → Result (List ℕ) Reason
reading line = if slice_index line 0 == 120 then Err (Transaction NoItems) else Ok line

-- three files, one of them empty; `b` has a line that is refused
abbrev pub files : List ℕ → Option (List ℕ)
files name = lookup (bytes_eq name) ((codes "a", codes "p\n# q\n\nrs") ∷ (codes "b", codes "t\r\nxu\nxv\n") ∷ (codes "e", []) ∷ [])

-- skipped lines hold no record, and the last line needs no line feed
pub skipped_lines : input reading length files (codes "a" ∷ codes "e" ∷ []) ≡ Ok (codes "p" ∷ codes "rs" ∷ [])
unfolding refusal
skipped_lines = refl

-- the first refused line of the second file, by its number in that file
pub refused_in_second : input reading length files (codes "a" ∷ codes "b" ∷ codes "c" ∷ [])
    ≡ Err (refused_line (codes "b") (record { number = 2; reason = Transaction NoItems }))
unfolding refusal
refused_in_second = refl

-- a file that isn't there, after one that is accepted and before one with a refused line
pub missing_second : input reading length files (codes "a" ∷ codes "c" ∷ codes "b" ∷ [])
    ≡ Err (missing_file (codes "c"))
unfolding refusal
missing_second = refl

-- one below the greatest sum is carried: the first record brings it to 2^127 - 1, the second past it
pub carried_sum : input_from reading length files 0 (2 ^ 127 - 2) (codes "a" ∷ [])
    ≡ Err (refused_line (codes "a") (record { number = 4; reason = SumTooLarge }))
unfolding refusal
carried_sum = refl

pub carried_sum_fits : input_from reading length files 0 (2 ^ 127 - 4) (codes "a" ∷ []) ≡ Ok (codes "p" ∷ codes "rs" ∷ [])
unfolding refusal
carried_sum_fits = refl

-- so it is where an earlier file brings it there
pub sum_of_both_files : input_from reading length files 0 (2 ^ 127 - 4) (codes "a" ∷ codes "a" ∷ [])
    ≡ Err (refused_line (codes "a") (record { number = 1; reason = SumTooLarge }))
unfolding refusal
sum_of_both_files = refl

-- the first file ends one byte before the limit of a run, which line 1 of the second passes
pub run_of_two_files : input_from reading length files (268435456 - 10) 0 (codes "a" ∷ codes "b" ∷ [])
    ≡ Err (refused_line (codes "b") (record { number = 1; reason = InputTooLarge }))
unfolding refusal
run_of_two_files = refl
