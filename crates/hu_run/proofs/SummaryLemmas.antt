-- What a run of mining wrote.
use Rattle.std.proofs.Common.{◌≡◌, ◌↔◌, ℕ, ◌<◌, ℤ, List, Result, Ok, Err, Option, None, Some, length, get_or, refl, ap, sym, subst}
use Rattle.std.specs.Prelude.{IfSome, IsOkAnd}
use Rattle.std.specs.List.{Contains}
use Rattle.std.specs.List.Sorted.{IsPermutation}
use Rattle.std.specs.declared.cmp.Ordering.TheVariants.{Less}
use Rattle.hu_kind.specs.declared.task.Task.TheVariants.{Items, Closed, Sequences}
use Rattle.hu_kind.specs.declared.entry.Entry.{Entry}
use Rattle.hu_kind.specs.Answer.{item_answer, closed_answer, sequence_answer}
use Rattle.hu_kind.specs.Itemsets.{item_patterns, closed_patterns}
use Rattle.hu_kind.specs.Order.{cut}
use Rattle.hu_kind.specs.Sequence.{sequence_patterns}
use Rattle.hu_answer.specs.Laws.{IsItemAnswer, IsClosedAnswer, IsSequenceAnswer, AnswerAscends}
use Rattle.hu_answer.specs.Laws.{ItemsInAnyOrder, ClosedInAnyOrder, SequencesInAnyOrder}
use Rattle.hu_average.specs.Answer.{average_answer}
use Rattle.hu_average.specs.Laws.{IsAverageAnswer, AveragesAscend, AveragesInAnyOrder}
use Rattle.hu_average.specs.Text.{average_text}
use Rattle.hu_io.specs.State.{Appended}
use Rattle.hu_input.specs.Input.{Unread, refused_line, missing_file}
use Rattle.hu_input.proofs.lemmas.Lawful.{sequences-lawful}
use Rattle.hu_lengths.specs.Lengths.{sized_answer}
use Rattle.hu_lengths.specs.Laws.{IsSizedAnswer, SizedAscends, SizedInAnyOrder}
use Rattle.hu_mine.specs.declared.engine.Engine.{Engine}
use Rattle.hu_proof.specs.Check.{first_fault}
use Rattle.hu_proof.specs.declared.fault.CheckFault.{CheckFault}
use Rattle.hu_report.specs.Text.{answer_text}
use Rattle.hu_run.specs.Job.{Asked, check, names_of}
use Rattle.hu_run.specs.Ending.{Ending, writes, ending, ending_by, certificate_ending, judging_ending, transactions}
use Rattle.hu_run.specs.Run.{Streams, Writing}
use Rattle.hu_run.specs.Summary.{Way, HasMined, HasMinedRecords, RunsWriteFound, ChecksWriteFound, SameRecordsWriteSame}
use Rattle.hu_run.specs.Summary.{by_items, by_closed, by_sequences, by_lengths, by_average}
use Rattle.hu_run.specs.Summary.{IsFoundItemset, IsFoundClosed, IsFoundOfLength, IsFoundByAverage, IsFoundPattern}

-- what was appended is the text of the ending
mined-text : (s : Streams) (asked : Asked) (told : List ℕ → Option (List ℕ)) (e : Ending) → HasMined s asked told
    → ending asked (Some told) (names_of asked s.words) ≡ Some e → Writing (Appended s.out s.out_after) e
mined-text s asked told e mined is =
    let fact : Ending → Type 0 = Writing (Appended s.out s.out_after) in
    let names = names_of asked s.words in
    let done = subst (λ j. IsOkAnd j (λ a. IfSome (ending a s.files.contents (names_of a s.words)) fact)) mined.words (mined.runs.done refl) in
    let over = subst (λ contents. IfSome (ending asked contents names) fact) mined.contents done in
    subst (λ end. IfSome end fact) is over

-- the input gave records, of which this is the ending
records-of_input : {R : Type 0} (fact : List ℕ → Type 0) (made : R → Ending) (input : Result R Unread) → Writing fact (ending_by made input)
    → (r : R) × (input ≡ Ok r) × Writing fact (made r)
records-of_input fact made (Ok r) wrote = (r, refl, wrote)
records-of_input fact made (Err (refused_line name refusal)) wrote = absurd wrote
records-of_input fact made (Err (missing_file name)) wrote = absurd wrote

-- a way of mining writes this text of the records that it reads
abbrev WritesTextOf : {R : Type 0} → Way R → (ℤ → Option ℕ → List R → List ℕ) → Type 0
WritesTextOf way text =
    (engine : Engine) (least : ℤ) (top : Option ℕ) (told : List ℕ → Option (List ℕ)) (names : List (List ℕ))
    → ending (way.asked engine least top) (Some told) names
    ≡ Some (ending_by (λ records. writes (text least top records)) (way.reads told names))

-- ---- all that is found

module _ {R : Type 0} (way : Way R) (whole : ℤ → List R → List Entry) where
  -- the first k of a whole answer
  abbrev text_of : ℤ → Option ℕ → List R → List ℕ
  text_of least top records = way.text (cut top (whole least records))

  -- where the whole answer lists what is found, a run wrote that
  runs-found : (IsFound : List R → ℤ → Entry → Type 0) → WritesTextOf way text_of
      → ((told : List ℕ → Option (List ℕ)) (names : List (List ℕ)) (records : List R) → way.reads told names ≡ Ok records
      → (least : ℤ) (entry : Entry) → Contains (whole least records) entry ↔ IsFound records least entry)
      → ((least : ℤ) (records : List R) (i j : ℕ) (d : Entry) → i < j → j < length (whole least records)
      → way.order (get_or (whole least records) i d) (get_or (whole least records) j d) ≡ Less)
      → RunsWriteFound way IsFound
  runs-found IsFound is each ascends s engine least top told mined =
      let asked = way.asked engine least top in
      let names = names_of asked s.words in
      let made : List R → Ending = λ records. writes (text_of least top records) in
      let written = mined-text s asked told (ending_by made (way.reads told names)) mined (is engine least top told names) in
      let wrote = records-of_input (Appended s.out s.out_after) made (way.reads told names) written in (
        wrote.0,
        wrote.1,
        (
          cut top (whole least wrote.0),
          record {
            whole = whole least wrote.0;
            each = each told names wrote.0 wrote.1 least;
            ascends = ascends least wrote.0;
            first = refl;
          },
          wrote.2,
        ),
      )

pub item-runs : IsItemAnswer → AnswerAscends → RunsWriteFound by_items IsFoundItemset
item-runs is ascends =
    runs-found by_items (λ least records. item_answer records least None) IsFoundItemset (λ engine least top told names. refl)
    (λ told names records read. is records)
    (λ least records. ascends least None (item_patterns records))

pub closed-runs : IsClosedAnswer → AnswerAscends → RunsWriteFound by_closed IsFoundClosed
closed-runs is ascends =
    runs-found by_closed (λ least records. closed_answer records least None) IsFoundClosed (λ engine least top told names. refl)
    (λ told names records read. is records)
    (λ least records. ascends least None (closed_patterns records))

pub sequence-runs : IsSequenceAnswer → AnswerAscends → RunsWriteFound by_sequences IsFoundPattern
sequence-runs is ascends =
    runs-found by_sequences (λ least records. sequence_answer records least None) IsFoundPattern (λ engine least top told names. refl)
    (λ told names records read. is records (sequences-lawful told names records read))
    (λ least records. ascends least None (sequence_patterns records))

pub sized-runs : IsSizedAnswer → SizedAscends → (short long : ℕ) → RunsWriteFound (by_lengths short long) (IsFoundOfLength short long)
sized-runs is ascends short long =
    runs-found (by_lengths short long) (λ least records. sized_answer records least None short long) (IsFoundOfLength short long)
    (λ engine least top told names. refl)
    (λ told names records read least. is records least short long)
    (λ least records. ascends records least None short long)

pub average-runs : IsAverageAnswer → AveragesAscend → RunsWriteFound by_average IsFoundByAverage
average-runs is ascends =
    runs-found by_average (λ least records. average_answer records least None) IsFoundByAverage (λ engine least top told names. refl)
    (λ told names records read. is records)
    (λ least records. ascends records least None)

-- a certificate that isn't there, or has a fault, lets nothing be written
accepted-text : (fact : List ℕ → Type 0) (least : ℤ) (cert : List ℕ) (records : List (List (ℕ × ℤ))) (found : Option (List ℕ))
    → Writing fact (certificate_ending least cert records found) → fact (answer_text Items (item_answer records least None))
accepted-text fact least cert records None wrote = absurd wrote
accepted-text fact least cert records (Some text) wrote = by (first_fault records least text) wrote
  where
    by : (fault : Option CheckFault) → Writing fact (judging_ending least cert records fault) → fact (answer_text Items (item_answer records least None))
    by None wrote = wrote
    by (Some fault) wrote = absurd wrote

pub check-runs : IsItemAnswer → AnswerAscends → ChecksWriteFound
check-runs is ascends s least cert told mined =
    let names = names_of (check least cert) s.words in
    let fact = Appended s.out s.out_after in
    let made : List (List (ℕ × ℤ)) → Ending = λ records. certificate_ending least cert records (told cert) in
    let written = mined-text s (check least cert) told (ending_by made (transactions told names)) mined refl in
    let wrote = records-of_input fact made (transactions told names) written in (
      wrote.0,
      wrote.1,
      (
        item_answer wrote.0 least None,
        record {
          whole = item_answer wrote.0 least None;
          each = is wrote.0 least;
          ascends = ascends least None (item_patterns wrote.0);
          first = refl;
        },
        accepted-text fact least cert wrote.0 (told cert) wrote.2,
      ),
    )

-- ---- runs over the same records

module _ {R : Type 0} (way : Way R) (text : ℤ → Option ℕ → List R → List ℕ) (is : WritesTextOf way text) where
  -- the text was appended
  text-appended : (s : Streams) (least : ℤ) (top : Option ℕ) (records : List R)
      → HasMinedRecords way least top records s → Appended s.out s.out_after (text least top records)
  text-appended s least top records run =
      let asked = way.asked run.engine least top in
      let names = names_of asked s.words in
      let fact : Ending → Type 0 = Writing (Appended s.out s.out_after) in
      let made : List R → Ending = λ rs. writes (text least top rs) in
      let wrote = mined-text s asked run.told (ending_by made (way.reads run.told names)) run.mined (is run.engine least top run.told names) in
      subst (λ input. fact (ending_by made input)) run.holds wrote

  -- where it doesn't mind the order of the records, two runs whose files hold the same ones wrote the same
  same-runs : ((records others : List R) (least : ℤ) (top : Option ℕ) → IsPermutation records others
      → text least top records ≡ text least top others) → SameRecordsWriteSame way
  same-runs same s other least top records others run another moved = (
    text least top records,
    text-appended s least top records run,
    subst (Appended other.out other.out_after) (sym (same records others least top moved))
        (text-appended other least top others another),
  )

pub same_items : ItemsInAnyOrder → SameRecordsWriteSame by_items
same_items same =
    same-runs by_items (λ least top records. answer_text Items (item_answer records least top)) (λ engine least top told names. refl)
    (λ records others least top moved. ap (answer_text Items) (same records others least top moved))

pub same_closed : ClosedInAnyOrder → SameRecordsWriteSame by_closed
same_closed same =
    same-runs by_closed (λ least top records. answer_text Closed (closed_answer records least top)) (λ engine least top told names. refl)
    (λ records others least top moved. ap (answer_text Closed) (same records others least top moved))

pub same_sequences : SequencesInAnyOrder → SameRecordsWriteSame by_sequences
same_sequences same =
    same-runs by_sequences (λ least top records. answer_text Sequences (sequence_answer records least top)) (λ engine least top told names. refl)
    (λ records others least top moved. ap (answer_text Sequences) (same records others least top moved))

pub same_lengths : SizedInAnyOrder → (short long : ℕ) → SameRecordsWriteSame (by_lengths short long)
same_lengths same short long =
    same-runs (by_lengths short long) (λ least top records. answer_text Items (sized_answer records least top short long))
    (λ engine least top told names. refl)
    (λ records others least top moved. ap (answer_text Items) (same records others least top short long moved))

pub same_averages : AveragesInAnyOrder → SameRecordsWriteSame by_average
same_averages same =
    same-runs by_average (λ least top records. average_text (average_answer records least top)) (λ engine least top told names. refl)
    (λ records others least top moved. ap average_text (same records others least top moved))
