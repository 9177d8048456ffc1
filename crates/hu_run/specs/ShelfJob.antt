-- The words of the command line that begin with `shelf`: shelf new NAME TASK MIN TOP, shelf add NAME FILE, or shelf list NAME.
use Rattle.std.specs.Prelude.{◌≤◌, ℕ, nat_lt, Bool, true, false, pos, ◌≤ℤ◌, IfSome, Option, None, Some, ⊤}
use Rattle.std.specs.Prelude.{Result, Ok, Err, List, [], ◌∷◌, length, codes, if◌then◌else◌}
use Rattle.std.specs.Str.{bytes_eq}
use Rattle.hu_kept.specs.Kept.{Keeping, fresh}
use Rattle.hu_run.specs.declared.words.WordFault.{WordFault}
use Rattle.hu_run.specs.declared.words.WordFault.TheVariants.{
  TooFewWords,
  TooManyWords,
  TaskUnknown,
  BadMinimum,
  BadTop,
}
use Rattle.hu_run.specs.declared.shelf.words.ShelfJob.{ShelfJob}
use Rattle.hu_run.specs.declared.shelf.words.ShelfJob.TheVariants as words
use Rattle.hu_run.specs.Job.{word_at, or_fault, refuse_if, ◌>>=◌, least_of, top_of}

-- what is asked of the store under a name: to make it without records, to add the records of a file to it, or to show its answer
pub data Shelving : Type 0 where
  make : List ℕ → Keeping → Shelving
  add : List ℕ → List ℕ → Shelving
  show : List ℕ → Shelving

-- whether closed itemsets alone are wanted, by the word of a task
abbrev pub closed_of : List ℕ → Option Bool
closed_of word =
    if bytes_eq word (codes "items") then Some false
    else if bytes_eq word (codes "closed") then Some true
    else None

-- words that are just so many
abbrev pub refuse_unless : ℕ → List (List ℕ) → Result (Unit {0}) WordFault
refuse_unless count words = do
  enough ← refuse_if (nat_lt (length words) count) TooFewWords
  refuse_if (nat_lt count (length words)) TooManyWords

-- what the words ask that begin with `shelf new`, or their first fault
abbrev pub make_job : List (List ℕ) → Result Shelving WordFault
make_job words = do
  six ← refuse_unless 6 words
  closed ← or_fault (closed_of (word_at words 3)) TaskUnknown
  least ← or_fault (least_of (word_at words 4)) BadMinimum
  top ← or_fault (top_of (word_at words 5)) BadTop
  Ok (make (word_at words 2) (fresh least top closed))

-- those that begin with `shelf add`
abbrev pub add_job : List (List ℕ) → Result Shelving WordFault
add_job words = do
  four ← refuse_unless 4 words
  Ok (add (word_at words 2) (word_at words 3))

-- those that begin with `shelf list`
abbrev pub show_job : List (List ℕ) → Result Shelving WordFault
show_job words = do
  three ← refuse_unless 3 words
  Ok (show (word_at words 2))

-- those of the second word
abbrev pub job_named : List ℕ → List (List ℕ) → Result Shelving WordFault
job_named word words =
    if bytes_eq word (codes "new") then make_job words
    else if bytes_eq word (codes "add") then add_job words
    else if bytes_eq word (codes "list") then show_job words
    else Err TaskUnknown

-- those that begin with `shelf`
abbrev pub shelf_job : List (List ℕ) → Result Shelving WordFault
shelf_job words = do
  enough ← refuse_if (nat_lt (length words) 3) TooFewWords
  job_named (word_at words 1) words

-- the words begin with `shelf`
abbrev pub is_shelf : List (List ℕ) → Bool
is_shelf words = bytes_eq (word_at words 0) (codes "shelf")

-- the name of the store
abbrev pub store_name : Shelving → List ℕ
store_name (make name store) = name
store_name (add name file) = name
store_name (show name) = name

-- the names of the files that are read
abbrev pub file_names : Shelving → List (List ℕ)
file_names (make name store) = []
file_names (add name file) = file ∷ []
file_names (show name) = []

-- the numbers of a store that is to be made are in their ranges
abbrev pub IsLawful : Shelving → Type 0
IsLawful (make name store) =
    (pos 1 ≤ℤ store.least) × IfSome store.top (λ k. 1 ≤ k) × IfSome store.top (λ k. k ≤ 1000000)
IsLawful (add name file) = ⊤
IsLawful (show name) = ⊤

-- what a `ShelfJob` asks for
abbrev pub shelving_of : ShelfJob → Shelving
shelving_of (words.New name closed least top) = make name.now (fresh least top closed)
shelving_of (words.Add name file) = add name.now file.now
shelving_of (words.Show name) = show name.now
