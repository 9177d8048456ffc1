-- What holds of every text of records.
use Rattle.std.specs.Prelude.{◌≡◌, ℕ, ◌≤◌, ℤ, Option, Ok, List, length}
use Rattle.std.specs.List.{sum_by}
use Rattle.hu_kind.specs.Record.{absolute_of}
use Rattle.hu_input.specs.Formats.{transaction_reading, sequence_reading}
use Rattle.hu_input.specs.Input.{records_of, input}
use Rattle.hu_text.specs.Records.{AreRecords, AreSequences}
use Rattle.hu_text.specs.Texts.{records_text, sequences_text, AreFilesOf, all_of}

-- reading a text of transactions gives these again
abbrev pub RecordsAreReadAgain : Type 0
RecordsAreReadAgain = (records : List (List (ℕ × ℤ))) →
    AreRecords records → length (records_text records) ≤ 268435456 →
    records_of transaction_reading absolute_of 0 0 (records_text records) ≡ Ok records

-- and the input of files of such texts has the transactions of all, in order
abbrev pub RecordsAreInput : Type 0
RecordsAreInput = (contents : List ℕ → Option (List ℕ)) (names : List (List ℕ))
    (lists : List (List (List (ℕ × ℤ)))) →
    AreFilesOf records_text contents names lists → AreRecords (all_of lists) →
    input transaction_reading absolute_of contents names ≡ Ok (all_of lists)

-- so it is of sequences
abbrev pub SequencesAreReadAgain : Type 0
SequencesAreReadAgain = (records : List (List (List (ℕ × ℤ)))) →
    AreSequences records → length (sequences_text records) ≤ 268435456 →
    records_of sequence_reading (sum_by absolute_of) 0 0 (sequences_text records) ≡ Ok records

-- and of files of them
abbrev pub SequencesAreInput : Type 0
SequencesAreInput = (contents : List ℕ → Option (List ℕ)) (names : List (List ℕ))
    (lists : List (List (List (List (ℕ × ℤ))))) →
    AreFilesOf sequences_text contents names lists → AreSequences (all_of lists) →
    input sequence_reading (sum_by absolute_of) contents names ≡ Ok (all_of lists)
