-- What a job comes to over the contents of its files. This is the whole program in one definition.
use Rattle.std.specs.Prelude.{
  ⊤,
  ℕ,
  ℤ,
  nat_lt,
  Option,
  None,
  Some,
  Result,
  Ok,
  Err,
  List,
  length,
  IsOk,
  if◌then◌else◌,
}
use Rattle.std.specs.Option.{option_map}
use Rattle.std.specs.List.{sum_by}
use Rattle.hu_kind.specs.declared.task.Task.{Task}
use Rattle.hu_kind.specs.declared.task.Task.TheVariants.{Items, Closed, Sequences}
use Rattle.hu_kind.specs.Answer.{item_answer, closed_answer, sequence_answer}
use Rattle.hu_kind.specs.Record.{absolute_of}
use Rattle.hu_lengths.specs.Lengths.{sized_answer}
use Rattle.hu_average.specs.Answer.{average_answer}
use Rattle.hu_average.specs.Text.{average_text}
use Rattle.hu_proof.specs.declared.fault.CheckFault.{CheckFault}
use Rattle.hu_proof.specs.Check.{first_fault}
use Rattle.hu_certify.specs.Text.{certificate_text}
use Rattle.hu_report.specs.Text.{answer_text}
use Rattle.hu_input.specs.Formats.{transaction_reading, sequence_reading}
use Rattle.hu_input.specs.Input.{Refusal, Unread, refused_line, missing_file, input}
use Rattle.hu_run.specs.Job.{Mining, Sizing, Searching, Asked, mine, size, average, certify, check, drill}
use Rattle.hu_run.specs.Drill.{drill_text}

-- why a certificate isn't accepted or isn't given: this one has a fault, its first one, or it would be too long
pub data Denial : Type 0 where
  has_fault : List ℕ → CheckFault → Denial
  too_long : Denial

-- the text that is written, the first line that is refused with the name of its file, the first file that isn't there, or what is
-- wrong with a certificate
pub data Ending : Type 0 where
  writes : List ℕ → Ending
  refuses : List ℕ → Refusal → Ending
  lacks : List ℕ → Ending
  denies : Denial → Ending

-- the ending of a job by what it makes of its input
abbrev pub ending_by : {R : Type 0} → (R → Ending) → Result R Unread → Ending
ending_by made (Ok found) = made found
ending_by made (Err (refused_line name refusal)) = refuses name refusal
ending_by made (Err (missing_file name)) = lacks name

-- the input of the named files, read as transactions: all of them as one list, or what keeps a job from them
abbrev pub transactions : (List ℕ → Option (List ℕ)) → List (List ℕ) → Result (List (List (ℕ × ℤ))) Unread
transactions contents names = input transaction_reading absolute_of contents names

-- the input of the named files, read as sequences
abbrev pub sequences : (List ℕ → Option (List ℕ)) → List (List ℕ) → Result (List (List (List (ℕ × ℤ)))) Unread
sequences contents names = input sequence_reading (λ elements. sum_by absolute_of elements) contents names

-- the ending of mining: the text of the answer of its task to all records of the named files
abbrev pub mining_ending : Mining → (List ℕ → Option (List ℕ)) → List (List ℕ) → Ending
mining_ending mining contents names = by_task mining.task
  where
    by_task : Task → Ending
    by_task Items =
        ending_by
        (λ records. writes (answer_text Items (item_answer records mining.least mining.top)))
        (transactions contents names)
    by_task Closed =
        ending_by
        (λ records. writes (answer_text Closed (closed_answer records mining.least mining.top)))
        (transactions contents names)
    by_task Sequences =
        ending_by
        (λ records. writes
        (answer_text Sequences (sequence_answer records mining.least mining.top)))
        (sequences contents names)

-- the ending of asking for itemsets of some lengths: the text of those of all records of the named files
abbrev pub sized_ending : Sizing → (List ℕ → Option (List ℕ)) → List (List ℕ) → Ending
sized_ending s contents names =
    ending_by
    (λ records. writes (answer_text Items (sized_answer records s.least s.top s.short s.long)))
    (transactions contents names)

-- the ending of asking for itemsets of high average utility: the text of those of all records of the named files
abbrev pub averaging_ending : Searching → (List ℕ → Option (List ℕ)) → List (List ℕ) → Ending
averaging_ending s contents names =
    ending_by (λ records. writes (average_text (average_answer records s.least s.top)))
    (transactions contents names)

-- the ending of making a certificate: its text, unless that is too long
abbrev pub given : List ℕ → Ending
given text = if nat_lt 268435456 (length text) then denies too_long else writes text

abbrev pub certifying_ending : ℤ → (List ℕ → Option (List ℕ)) → List (List ℕ) → Ending
certifying_ending least contents names =
    ending_by (λ records. given (certificate_text records least)) (transactions contents names)

-- the ending of a check over records: where the text of the certificate has no fault, that of all their itemsets that reach the
-- least utility
abbrev pub judging_ending : ℤ → List ℕ → List (List (ℕ × ℤ)) → Option CheckFault → Ending
judging_ending least cert records None = writes (answer_text Items (item_answer records least None))
judging_ending least cert records (Some fault) = denies (has_fault cert fault)

abbrev pub certificate_ending : ℤ → List ℕ → List (List (ℕ × ℤ)) → Option (List ℕ) → Ending
certificate_ending least cert records None = lacks cert
certificate_ending least cert records (Some text) =
    judging_ending least cert records (first_fault records least text)

-- the ending of a check of a certificate over all records of the named files
abbrev pub checking_ending : ℤ → List ℕ → (List ℕ → Option (List ℕ)) → List (List ℕ) → Ending
checking_ending least cert contents names =
    ending_by (λ records. certificate_ending least cert records (contents cert)) (transactions contents names)

-- the ending of a job over its files, where their contents are told; a drill has none
abbrev pub ending : Asked → Option (List ℕ → Option (List ℕ)) → List (List ℕ) → Option Ending
ending (mine mining) contents names = option_map (λ told. mining_ending mining told names) contents
ending (size sizing) contents names = option_map (λ told. sized_ending sizing told names) contents
ending (average searching) contents names =
    option_map (λ told. averaging_ending searching told names) contents
ending (certify least) contents names = option_map (λ told. certifying_ending least told names) contents
ending (check least cert) contents names = option_map (λ told. checking_ending least cert told names) contents
ending (drill seed) contents names = Some (writes (drill_text seed))

-- the status of a run that comes to an ending
abbrev pub status_of : Ending → ℕ
status_of (writes text) = 0
status_of (refuses name refusal) = 1
status_of (lacks name) = 3
status_of (denies denial) = 6

-- each of these files of a job is there, and each line of it is accepted
abbrev pub IsAccepted : Asked → (List ℕ → Option (List ℕ)) → List (List ℕ) → Type 0
IsAccepted (mine mining) contents names = by_task mining.task
  where
    by_task : Task → Type 0
    by_task Sequences = IsOk (sequences contents names)
    by_task task = IsOk (transactions contents names)
IsAccepted (drill seed) contents names = ⊤
IsAccepted asked contents names = IsOk (transactions contents names)
