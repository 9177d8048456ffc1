-- Worked rows: texts of records, and what is read of them, by computation.
use Rattle.std.specs.Prelude.{
  ◌≡◌,
  ℕ,
  ◌^◌,
  ◌-◌,
  ℤ,
  pos,
  negsuc,
  Option,
  Ok,
  Err,
  List,
  [],
  ◌∷◌,
  ◌++◌,
  codes,
  sum_by,
  refl,
}
use Rattle.std.specs.Fmt.{digits}
use Rattle.std.specs.Map.{lookup}
use Rattle.std.specs.Str.{bytes_eq}
use Rattle.hu_kind.specs.Record.{absolute_of}
use Rattle.hu_kind.specs.Worked.{later_is_greatest}
use Rattle.hu_lines.specs.Limits.{refusal}
use Rattle.hu_trans.specs.declared.fault.Fault.TheVariants.{NoItems}
use Rattle.hu_seq.specs.Token.{token_of}
use Rattle.hu_seq.specs.Reading.{reading}
use Rattle.hu_input.specs.declared.reason.Reason.TheVariants.{SumTooLarge, Transaction, InputTooLarge}
use Rattle.hu_input.specs.Formats.{transaction_reading, sequence_reading}
use Rattle.hu_input.specs.Input.{records_of, input}
use Rattle.hu_text.specs.Texts.{records_text, sequences_text, all_of}

-- two transactions and their text
abbrev pub two : List (List (ℕ × ℤ))
two = ((1, pos 4) ∷ (2, negsuc 2) ∷ []) ∷ ((3, pos 0) ∷ []) ∷ []

pub text_of_two : records_text two ≡ codes "1 2:1:4 -3\n" ++ codes "3:0:0\n"
unfolding digits
text_of_two = refl

pub two_read_again : records_of transaction_reading absolute_of 0 0 (records_text two) ≡ Ok two
unfolding digits refusal
two_read_again = refl

-- a sequence and its text
pub text_of_later : sequences_text (later_is_greatest ∷ []) ≡
    codes "1[2] -1 1[5] -1 2[3] -1 -2 SUtility:10\n"
unfolding digits
text_of_later = refl

pub later_read_again : records_of sequence_reading (sum_by absolute_of) 0 0
    (sequences_text (later_is_greatest ∷ [])) ≡ Ok (later_is_greatest ∷ [])
unfolding digits refusal reading token_of
later_read_again = refl

-- two files of such texts, and their input
abbrev pub files : List ℕ → Option (List ℕ)
files name = lookup (bytes_eq name) ((codes "a", records_text two) ∷ (codes "b", []) ∷ [])

pub input_of_both : input transaction_reading absolute_of files
    (codes "a" ∷ codes "b" ∷ codes "a" ∷ []) ≡ Ok (all_of (two ∷ [] ∷ two ∷ []))
unfolding digits refusal
input_of_both = refl

-- a record without an item isn't read again
pub no_item_refused : records_of transaction_reading absolute_of 0 0 (records_text ([] ∷ [])) ≡
    Err (record { number = 1; reason = Transaction NoItems })
unfolding digits refusal
no_item_refused = refl

-- nor are records whose absolute sum is too large together
pub sum_refused : records_of transaction_reading absolute_of 0 0
    (records_text (((1, pos (2 ^ 127 - 1)) ∷ []) ∷ ((1, pos 1) ∷ []) ∷ [])) ≡
    Err (record { number = 2; reason = SumTooLarge })
unfolding digits refusal
sum_refused = refl

-- nor is a text that passes the limit of a run, here after all bytes but ten
pub run_refused : records_of transaction_reading absolute_of (268435456 - 10) 0 (records_text two) ≡
    Err (record { number = 1; reason = InputTooLarge })
unfolding digits refusal
run_refused = refl
