-- What holds of every text of an answer.
use Rattle.std.specs.Prelude.{◌≡◌, ℕ, ◌^◌, ◌<◌, ℤ, Option, List, map, length}
use Rattle.hu_kind.specs.declared.entry.Entry.{Entry}
use Rattle.hu_kind.specs.declared.task.Task.{Task}
use Rattle.hu_kind.specs.declared.task.Task.TheVariants.{Closed}
use Rattle.hu_kind.specs.Answer.{item_answer, closed_answer, sequence_answer}
use Rattle.hu_report.specs.Text.{answer_text}
use Rattle.hu_text.specs.Records.{AreRecords, AreSequences}
use Rattle.hu_text.specs.Told.{told, printed, AreReadable}

-- reading the text of an answer gives what is printed of each entry
abbrev pub TextTellsEntries : Type 0
TextTellsEntries = (task : Task) (entries : List Entry) → AreReadable entries →
    told (answer_text task entries) ≡ map (printed task) entries

-- two answers of a task that can be read again have the same text
pub record HaveOneText (task : Task) (first second : List Entry) : Type 0 where
  pub first_readable : AreReadable first
  pub second_readable : AreReadable second
  pub one : answer_text task first ≡ answer_text task second

-- then they have the same keys, in order
abbrev pub OneTextOneKeys : Type 0
OneTextOneKeys = (task : Task) (first second : List Entry) → HaveOneText task first second →
    map (λ e. e.key) first ≡ map (λ e. e.key) second

-- and the same utilities
abbrev pub OneTextOneUtilities : Type 0
OneTextOneUtilities = (task : Task) (first second : List Entry) → HaveOneText task first second →
    map (λ e. e.utility) first ≡ map (λ e. e.utility) second

-- and where the task prints supports it is the same answer
abbrev pub OneTextOneAnswer : Type 0
OneTextOneAnswer = (first second : List Entry) → HaveOneText Closed first second → first ≡ second

-- the entries of an answer over itemsets can be read again
abbrev pub ItemAnswerIsReadable : Type 0
ItemAnswerIsReadable = (records : List (List (ℕ × ℤ))) (least : ℤ) (top : Option ℕ) →
    AreRecords records → length records < 2 ^ 64 → AreReadable (item_answer records least top)

-- and those of one over closed itemsets
abbrev pub ClosedAnswerIsReadable : Type 0
ClosedAnswerIsReadable = (records : List (List (ℕ × ℤ))) (least : ℤ) (top : Option ℕ) →
    AreRecords records → length records < 2 ^ 64 → AreReadable (closed_answer records least top)

-- and those of one over sequences
abbrev pub SequenceAnswerIsReadable : Type 0
SequenceAnswerIsReadable = (records : List (List (List (ℕ × ℤ)))) (least : ℤ) (top : Option ℕ) →
    AreSequences records → length records < 2 ^ 64 → AreReadable (sequence_answer records least top)
