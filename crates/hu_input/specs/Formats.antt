-- The forms of lines, with the reasons of this program.
use Rattle.std.specs.Prelude.{ℕ, ℤ, Result, List}
use Rattle.std.specs.Result.{result_map_both}
use Rattle.hu_trans.specs.Reading.{reading}
use Rattle.hu_seq.specs.Reading.{reading as seq_reading}
use Rattle.hu_input.specs.declared.reason.Reason.{Reason}
use Rattle.hu_input.specs.declared.reason.Reason.TheVariants.{Transaction, Sequence}

-- what a transaction line says
abbrev pub transaction_reading : List ℕ → Result (List (ℕ × ℤ)) Reason
transaction_reading line = result_map_both (λ cells. cells) Transaction (reading line)

-- what a sequence line says
abbrev pub sequence_reading : List ℕ → Result (List (List (ℕ × ℤ))) Reason
sequence_reading line = result_map_both (λ elements. elements) Sequence (seq_reading line)
