-- The words of the command line as a job: TASK ENGINE MIN TOP FILE [BATCH ..], average ENGINE MIN TOP FILE [BATCH ..],
-- sized ENGINE MIN TOP SHORT LONG FILE [BATCH ..], certify MIN FILE [BATCH ..], check MIN CERT FILE [BATCH ..], or drill SEED.
use Rattle.std.specs.Prelude.{
  ◌≡◌,
  ⊤,
  ℕ,
  ◌≤◌,
  nat_lt,
  nat_le,
  Bool,
  true,
  false,
  ◌&&◌,
  ℤ,
  pos,
  ◌≤ℤ◌,
  int_le,
  unsigned_abs,
  IfSome,
  Option,
  None,
  Some,
  Result,
  Ok,
  Err,
  List,
  [],
  ◌∷◌,
  ◌++◌,
  length,
  drop,
  codes,
  slice_index_or,
  if◌then◌else◌,
}
use Rattle.std.specs.Option.{option_and_then, option_map}
use Rattle.std.specs.Result.{result_ok}
use Rattle.std.specs.Str.{bytes_eq}
use Rattle.std.specs.declared.string.String.{String}
use Rattle.std.specs.declared.alloc.Global.{Global}
use Rattle.hu_kind.specs.declared.task.Task.{Task}
use Rattle.hu_kind.specs.declared.task.Task.TheVariants.{Items, Closed, Sequences}
use Rattle.hu_kind.specs.Number.{number}
use Rattle.hu_mine.specs.declared.engine.Engine.{Engine}
use Rattle.hu_mine.specs.declared.engine.Engine.TheVariants.{Plain, Lists, Project, Kept, Chain}
use Rattle.hu_mine.specs.Engine.{offers, offers_further}
use Rattle.hu_run.specs.declared.words.Job.{Job}
use Rattle.hu_run.specs.declared.words.Job.TheVariants as words
use Rattle.hu_run.specs.declared.words.WordFault.{WordFault}
use Rattle.hu_run.specs.declared.words.WordFault.TheVariants.{
  TooFewWords,
  TooManyWords,
  BadSeed,
  TaskUnknown,
  EngineNotOffered,
  BadMinimum,
  BadTop,
  BadLengths,
  TooManyFiles,
}

-- the task that a word names
abbrev pub task_of : List ℕ → Option Task
task_of word =
    if bytes_eq word (codes "items") then Some Items
    else if bytes_eq word (codes "closed") then Some Closed
    else if bytes_eq word (codes "seq") then Some Sequences
    else None

-- the engine that a word names
abbrev pub engine_of : List ℕ → Option Engine
engine_of word =
    if bytes_eq word (codes "plain") then Some Plain
    else if bytes_eq word (codes "lists") then Some Lists
    else if bytes_eq word (codes "project") then Some Project
    else if bytes_eq word (codes "kept") then Some Kept
    else if bytes_eq word (codes "chain") then Some Chain
    else None

-- what is there, or a fault
abbrev pub or_fault : {A : Type 0} → Option A → WordFault → Result A WordFault
or_fault None fault = Err fault
or_fault (Some x) fault = Ok x

-- a test that has to fail, or a fault
abbrev pub refuse_if : Bool → WordFault → Result (Unit {0}) WordFault
refuse_if true fault = Err fault
refuse_if false fault = Ok tt

infixl 10 ◌>>=◌
abbrev pub ◌>>=◌ : {A B : Type 0} → Result A WordFault → (A → Result B WordFault) → Result B WordFault
Ok x >>= f = f x
Err fault >>= f = Err fault

-- what is there, where it passes a test
abbrev pub kept_if : {A : Type 0} → (A → Bool) → Option A → Option A
kept_if test x = option_and_then (λ a. if test a then Some a else None) x

-- the engine that a word names, where the task offers it
abbrev pub offered_engine : Task → List ℕ → Option Engine
offered_engine task word = kept_if (offers task) (engine_of word)

-- the least utility that a word says: a number of at least 1
abbrev pub least_of : List ℕ → Option ℤ
least_of word = kept_if (λ n. int_le (pos 1) n) (result_ok (number word))

-- how many entries a word asks for: all, or a number from 1 to 1,000,000
abbrev pub top_of : List ℕ → Option (Option ℕ)
top_of word =
    if bytes_eq word (codes "all") then Some None
    else option_map (λ n. Some (unsigned_abs n))
    (kept_if (λ n. int_le (pos 1) n && int_le n (pos 1000000)) (result_ok (number word)))

-- the seed that a word says: a number from 1 to 2,147,483,646
abbrev pub seed_of : List ℕ → Option ℕ
seed_of word =
    option_map unsigned_abs (kept_if (λ n. int_le (pos 1) n && int_le n (pos 2147483646))
    (result_ok (number word)))

-- the engine that a word names, where a further task offers it
abbrev pub further_engine : List ℕ → Option Engine
further_engine word = kept_if offers_further (engine_of word)

-- the length that a word says: a number from 1 to 4,096
abbrev pub length_of : List ℕ → Option ℕ
length_of word =
    option_map unsigned_abs (kept_if (λ n. int_le (pos 1) n && int_le n (pos 4096))
    (result_ok (number word)))

-- a least and a greatest length of itemsets
abbrev pub AreLengths : ℕ → ℕ → Type 0
AreLengths short long = (1 ≤ short) × (short ≤ long) × (long ≤ 4096)

-- the least and the greatest length that two words say
abbrev pub lengths_of : List ℕ → List ℕ → Option (ℕ × ℕ)
lengths_of short_word long_word =
    option_and_then
    (λ short. option_and_then (λ long. if nat_le short long then Some (short, long) else None)
    (length_of long_word)) (length_of short_word)

-- the patterns of a task by an engine: those that earn a least utility, all of them or the first k
pub record Mining : Type 0 where
  pub task : Task
  pub engine : Engine
  pub least : ℤ
  pub top : Option ℕ

-- the itemsets of some lengths by an engine
pub record Sizing : Type 0 where
  pub engine : Engine
  pub least : ℤ
  pub top : Option ℕ
  pub short : ℕ
  pub long : ℕ

-- how an engine is to search: what is wanted earns a least utility, all of it or the first k
pub record Searching : Type 0 where
  pub engine : Engine
  pub least : ℤ
  pub top : Option ℕ

-- what is asked for: to mine files, for itemsets of some lengths, or for those of high average utility, to make a certificate at a
-- least utility, to check one of this name, or a drill by a seed
pub data Asked : Type 0 where
  mine : Mining → Asked
  size : Sizing → Asked
  average : Searching → Asked
  certify : ℤ → Asked
  check : ℤ → List ℕ → Asked
  drill : ℕ → Asked

-- mining by these numbers
abbrev pub mining : Task → Engine → ℤ → Option ℕ → Asked
mining task engine least top = mine (record { task = task; engine = engine; least = least; top = top })

-- itemsets of some lengths by these numbers
abbrev pub sizing : Engine → ℤ → Option ℕ → ℕ → ℕ → Asked
sizing engine least top short long =
    size (record { engine = engine; least = least; top = top; short = short; long = long })

-- itemsets of high average utility by these numbers
abbrev pub averaging : Engine → ℤ → Option ℕ → Asked
averaging engine least top = average (record { engine = engine; least = least; top = top })

-- the word at a place
abbrev pub word_at : List (List ℕ) → ℕ → List ℕ
word_at words i = slice_index_or words i []

-- an engine, a least utility and a k, which words say from the second on, or their first fault; the engine is read before
abbrev pub search_of : Option Engine → List (List ℕ) → Result Searching WordFault
search_of named words = do
  engine ← or_fault named EngineNotOffered
  least ← or_fault (least_of (word_at words 2)) BadMinimum
  top ← or_fault (top_of (word_at words 3)) BadTop
  Ok (record { engine = engine; least = least; top = top })

-- the job of words that name a task, or their first fault. The names of its files are the words after the fourth, at most 64.
abbrev pub mining_job : List (List ℕ) → Result Asked WordFault
mining_job words = do
  enough ← refuse_if (nat_lt (length words) 5) TooFewWords
  task ← or_fault (task_of (word_at words 0)) TaskUnknown
  search ← search_of (offered_engine task (word_at words 1)) words
  few ← refuse_if (nat_lt 68 (length words)) TooManyFiles
  Ok (mining task search.engine search.least search.top)

-- the job of words that begin with `drill`, or their first fault
abbrev pub drill_job : List (List ℕ) → Result Asked WordFault
drill_job words = do
  enough ← refuse_if (nat_lt (length words) 2) TooFewWords
  alone ← refuse_if (nat_lt 2 (length words)) TooManyWords
  seed ← or_fault (seed_of (word_at words 1)) BadSeed
  Ok (drill seed)

-- the job of words that begin with `sized`, or their first fault. The names of its files are the words after the sixth, at most 64.
abbrev pub sized_job : List (List ℕ) → Result Asked WordFault
sized_job words = do
  enough ← refuse_if (nat_lt (length words) 7) TooFewWords
  search ← search_of (further_engine (word_at words 1)) words
  lengths ← or_fault (lengths_of (word_at words 4) (word_at words 5)) BadLengths
  few ← refuse_if (nat_lt 70 (length words)) TooManyFiles
  Ok (sizing search.engine search.least search.top lengths.0 lengths.1)

-- the job of words that begin with `average`, or their first fault. The names of its files are the words after the fourth, at
-- most 64.
abbrev pub average_job : List (List ℕ) → Result Asked WordFault
average_job words = do
  enough ← refuse_if (nat_lt (length words) 5) TooFewWords
  search ← search_of (further_engine (word_at words 1)) words
  few ← refuse_if (nat_lt 68 (length words)) TooManyFiles
  Ok (average search)

-- the job of words that begin with `certify`, or their first fault: the second word is a least utility, and those after it name the
-- files, at most 64
abbrev pub certify_job : List (List ℕ) → Result Asked WordFault
certify_job words = do
  enough ← refuse_if (nat_lt (length words) 3) TooFewWords
  least ← or_fault (least_of (word_at words 1)) BadMinimum
  few ← refuse_if (nat_lt 66 (length words)) TooManyFiles
  Ok (certify least)

-- the job of words that begin with `check`, or their first fault: the second word is a least utility, the third names a
-- certificate, and those after it the files, at most 64
abbrev pub check_job : List (List ℕ) → Result Asked WordFault
check_job words = do
  enough ← refuse_if (nat_lt (length words) 4) TooFewWords
  least ← or_fault (least_of (word_at words 1)) BadMinimum
  few ← refuse_if (nat_lt 67 (length words)) TooManyFiles
  Ok (check least (word_at words 2))

-- the job of the words, or their first fault
abbrev pub job : List (List ℕ) → Result Asked WordFault
job words =
    if bytes_eq (word_at words 0) (codes "drill") then drill_job words
    else if bytes_eq (word_at words 0) (codes "sized") then sized_job words
    else if bytes_eq (word_at words 0) (codes "average") then average_job words
    else if bytes_eq (word_at words 0) (codes "certify") then certify_job words
    else if bytes_eq (word_at words 0) (codes "check") then check_job words
    else mining_job words

-- the words that name the files of a job
abbrev pub names_of : {W : Type 0} → Asked → List W → List W
names_of (mine m) words = drop 4 words
names_of (size s) words = drop 6 words
names_of (average s) words = drop 4 words
names_of (certify least) words = drop 2 words
names_of (check least cert) words = drop 3 words
names_of (drill seed) words = []

-- the name of the certificate of a job that has one
abbrev pub certificate_of : Asked → List (List ℕ)
certificate_of (check least cert) = cert ∷ []
certificate_of asked = []

-- the names of all that a job reads, in the order of reading: its files, and then a certificate
abbrev pub reads_of : Asked → List (List ℕ) → List (List ℕ)
reads_of asked words = names_of asked words ++ certificate_of asked

-- a seed in its range
abbrev pub IsSeed : ℕ → Type 0
IsSeed seed = (1 ≤ seed) × (seed ≤ 2147483646)

-- the numbers of a job are in their ranges, and its task offers its engine
abbrev pub IsLawful : Asked → Type 0
IsLawful (mine m) = (offers m.task m.engine ≡ true) × (pos 1 ≤ℤ m.least) × IfSome m.top (λ k. 1 ≤ k)
IsLawful (size s) =
    (offers_further s.engine ≡ true) × (pos 1 ≤ℤ s.least) × IfSome s.top (λ k. 1 ≤ k)
    × AreLengths s.short s.long
IsLawful (average s) = (offers_further s.engine ≡ true) × (pos 1 ≤ℤ s.least) × IfSome s.top (λ k. 1 ≤ k)
IsLawful (certify least) = pos 1 ≤ℤ least
IsLawful (check least cert) = pos 1 ≤ℤ least
IsLawful (drill seed) = IsSeed seed

-- a job that reads no file
abbrev pub IsDrill : Asked → Type 0
IsDrill (mine m) = ⊥
IsDrill (size s) = ⊥
IsDrill (average s) = ⊥
IsDrill (certify least) = ⊥
IsDrill (check least cert) = ⊥
IsDrill (drill seed) = ⊤

-- what a `Job` asks for
abbrev pub asked_of : Job → Asked
asked_of (words.Mine task engine least top names) = mining task engine least top
asked_of (words.Sized engine least top short long names) = sizing engine least top short long
asked_of (words.Average engine least top names) = averaging engine least top
asked_of (words.Certify least names) = certify least
asked_of (words.Check least cert names) = check least cert.now
asked_of (words.Drill seed) = drill seed

-- the names of its files
abbrev pub files_of : Job → List (String Global)
files_of (words.Mine task engine least top names) = names.now
files_of (words.Sized engine least top short long names) = names.now
files_of (words.Average engine least top names) = names.now
files_of (words.Certify least names) = names.now
files_of (words.Check least cert names) = names.now
files_of (words.Drill seed) = []
