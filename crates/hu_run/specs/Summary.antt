-- What a run of mining wrote, in the words of its reader: without an answer's definition and without a ranking.
use Rattle.std.specs.Prelude.{
  ◌≡◌,
  ◌↔◌,
  ℕ,
  ◌<◌,
  ◌≤◌,
  ℤ,
  pos,
  ◌*ℤ◌,
  Option,
  None,
  Some,
  Result,
  Ok,
  List,
  length,
  get_or,
}
use Rattle.std.specs.List.{Contains}
use Rattle.std.specs.List.Sorted.{IsPermutation}
use Rattle.std.specs.declared.cmp.Ordering.{Ordering}
use Rattle.std.specs.declared.cmp.Ordering.TheVariants.{Less}
use Rattle.hu_kind.specs.declared.entry.Entry.{Entry}
use Rattle.hu_kind.specs.declared.task.Task.TheVariants.{Items, Closed, Sequences}
use Rattle.hu_kind.specs.Order.{entry_cmp, cut}
use Rattle.hu_answer.specs.Entries.{IsEntryOf, IsFoundSet, IsSequenceEntryOf, IsFoundSequence}
use Rattle.hu_answer.specs.Supersets.{IsClosedSet}
use Rattle.hu_average.specs.Order.{average_cmp}
use Rattle.hu_average.specs.Text.{average_text}
use Rattle.hu_io.specs.State.{Appended}
use Rattle.hu_input.specs.Input.{Unread}
use Rattle.hu_mine.specs.declared.engine.Engine.{Engine}
use Rattle.hu_report.specs.Text.{answer_text}
use Rattle.hu_run.specs.Job.{Asked, job, mining, sizing, averaging, check, names_of}
use Rattle.hu_run.specs.Ending.{transactions, sequences}
use Rattle.hu_run.specs.Run.{Streams, Runs}

-- ---- ways of mining

-- how the records of named files are read of contents
abbrev pub Reads : Type 0 → Type 0
Reads R = (List ℕ → Option (List ℕ)) → List (List ℕ) → Result (List R) Unread

-- a way of mining: what is asked for by an engine, a minimum and a k, how records are read, in which order entries come, and how
-- they are written
pub record Way (R : Type 0) : Type 0 where
  pub asked : Engine → ℤ → Option ℕ → Asked
  pub reads : Reads R
  pub order : Entry → Entry → Ordering
  pub text : List Entry → List ℕ

abbrev pub by_items : Way (List (ℕ × ℤ))
by_items = record {
  asked = mining Items;
  reads = transactions;
  order = entry_cmp;
  text = answer_text Items;
}

abbrev pub by_closed : Way (List (ℕ × ℤ))
by_closed = record {
  asked = mining Closed;
  reads = transactions;
  order = entry_cmp;
  text = answer_text Closed;
}

abbrev pub by_sequences : Way (List (List (ℕ × ℤ)))
by_sequences = record {
  asked = mining Sequences;
  reads = sequences;
  order = entry_cmp;
  text = answer_text Sequences;
}

abbrev pub by_lengths : ℕ → ℕ → Way (List (ℕ × ℤ))
by_lengths short long = record {
  asked = λ engine least top. sizing engine least top short long;
  reads = transactions;
  order = entry_cmp;
  text = answer_text Items;
}

abbrev pub by_average : Way (List (ℕ × ℤ))
by_average = record {
  asked = averaging;
  reads = transactions;
  order = average_cmp;
  text = average_text;
}

-- ---- what is found in records

-- the entry of an itemset that is found
abbrev pub IsFoundItemset : List (List (ℕ × ℤ)) → ℤ → Entry → Type 0
IsFoundItemset records least entry =
    (items : List ℕ) × IsFoundSet records least items × IsEntryOf records items entry

-- of a closed one
abbrev pub IsFoundClosed : List (List (ℕ × ℤ)) → ℤ → Entry → Type 0
IsFoundClosed records least entry =
    (items : List ℕ) × IsFoundSet records least items × IsClosedSet records items
    × IsEntryOf records items entry

-- of one of a least and a greatest length
abbrev pub IsFoundOfLength : ℕ → ℕ → List (List (ℕ × ℤ)) → ℤ → Entry → Type 0
IsFoundOfLength short long records least entry =
    (items : List ℕ) × IsFoundSet records least items × (short ≤ length items) × (length items ≤ long)
    × IsEntryOf records items entry

-- of one that earns the minimum for each of its items
abbrev pub IsFoundByAverage : List (List (ℕ × ℤ)) → ℤ → Entry → Type 0
IsFoundByAverage records least entry =
    (items : List ℕ) × IsFoundSet records (least *ℤ pos (length items)) items
    × IsEntryOf records items entry

-- of a sequence
abbrev pub IsFoundPattern : List (List (List (ℕ × ℤ))) → ℤ → Entry → Type 0
IsFoundPattern records least entry =
    (pattern : List (List ℕ)) × IsFoundSequence records least pattern
    × IsSequenceEntryOf records pattern entry

-- ---- what a run wrote

-- a list of all that is found: each once and in the order, and the first k of them where there is a k
pub record ListsFound (order : Entry → Entry → Ordering) (IsFound : Entry → Type 0) (top : Option ℕ)
    (entries : List Entry) : Type 0 where
  pub whole : List Entry
  pub each : (entry : Entry) → Contains whole entry ↔ IsFound entry
  pub ascends : (i j : ℕ) (d : Entry) → i < j → j < length whole
      → order (get_or whole i d) (get_or whole j d) ≡ Less
  pub first : entries ≡ cut top whole

-- the text of such a list was appended to `out`
abbrev pub WritesFound : {R : Type 0} → Streams → Way R → (Entry → Type 0) → Option ℕ → Type 0
WritesFound s way IsFound top =
    (entries : List Entry) × ListsFound way.order IsFound top entries
    × Appended s.out s.out_after (way.text entries)

-- a run of a job over told contents that ended with status 0
pub record HasMined (s : Streams) (asked : Asked) (told : List ℕ → Option (List ℕ)) : Type 0 where
  pub runs : Runs s 0
  pub words : job s.words ≡ Ok asked
  pub contents : s.files.contents ≡ Some told

-- a run of mining read the records of its files, and wrote all that is found in these
abbrev pub RunsWriteFound : {R : Type 0} → Way R → (List R → ℤ → Entry → Type 0) → Type 0
RunsWriteFound {R} way IsFound =
    (s : Streams) (engine : Engine) (least : ℤ) (top : Option ℕ) (told : List ℕ → Option (List ℕ)) →
    HasMined s (way.asked engine least top) told →
    (records : List R)
    × (way.reads told (names_of (way.asked engine least top) s.words) ≡ Ok records)
    × WritesFound s way (IsFound records least) top

-- a run that checked a certificate wrote all itemsets that earn the minimum in the records of its files
abbrev pub ChecksWriteFound : Type 0
ChecksWriteFound =
    (s : Streams) (least : ℤ) (cert : List ℕ) (told : List ℕ → Option (List ℕ)) →
    HasMined s (check least cert) told →
    (records : List (List (ℕ × ℤ)))
    × (transactions told (names_of (check least cert) s.words) ≡ Ok records)
    × WritesFound s by_items (IsFoundItemset records least) None

-- ---- runs over the same records

-- a run of mining that ended with status 0, by some engine and over some told contents: its files
-- hold these records
pub record HasMinedRecords {R : Type 0} (way : Way R) (least : ℤ) (top : Option ℕ)
    (records : List R) (s : Streams) : Type 0 where
  pub engine : Engine
  pub told : List ℕ → Option (List ℕ)
  pub mined : HasMined s (way.asked engine least top) told
  pub holds : way.reads told (names_of (way.asked engine least top) s.words) ≡ Ok records

-- two runs of mining, with one minimum and one k, whose files hold the same records in whatever
-- order appended the same text
abbrev pub SameRecordsWriteSame : {R : Type 0} → Way R → Type 0
SameRecordsWriteSame {R} way =
    (s other : Streams) (least : ℤ) (top : Option ℕ) (records others : List R) →
    HasMinedRecords way least top records s →
    HasMinedRecords way least top others other →
    IsPermutation records others →
    (text : List ℕ) × Appended s.out s.out_after text × Appended other.out other.out_after text
