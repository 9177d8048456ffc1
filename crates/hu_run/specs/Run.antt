-- What a run promises of its words, files and streams.
use Rattle.std.specs.Prelude.{
  ◌≡◌,
  ◌≢◌,
  ◌↔◌,
  ◌⊎◌,
  ℕ,
  ◌≤◌,
  Some,
  List,
  take,
  slice_get,
  codes,
  IsOkAnd,
  IsErr,
  IfErr,
  IfOk,
  IfSome,
  ⊤,
}
use Rattle.std.specs.List.{Contains}
use Rattle.hu_io.specs.Count.{Rose}
use Rattle.hu_io.specs.State.{SinkState, FilesState, Appended, Broke}
use Rattle.hu_input.specs.Input.{Refusal}
use Rattle.hu_run.specs.Job.{Asked, certify, check, job, names_of, reads_of}
use Rattle.hu_run.specs.Ending.{
  Denial,
  has_fault,
  too_long,
  Ending,
  writes,
  refuses,
  lacks,
  denies,
  ending,
  status_of,
  IsAccepted,
}
use Rattle.hu_run.specs.Stop.{told_line, word_text, refusal_line, read_failed_line, denial_line}

-- a run's words, and its files and streams before and after it
pub record Streams : Type 0 where
  pub words : List (List ℕ)
  pub files : FilesState
  pub files_after : FilesState
  pub out : SinkState
  pub out_after : SinkState
  pub err : SinkState
  pub err_after : SinkState

-- those of a run
abbrev pub streams : List (List ℕ) → FilesState → FilesState → SinkState → SinkState → SinkState
    → SinkState → Streams
streams words files files_after out out_after err err_after = record {
  words = words;
  files = files;
  files_after = files_after;
  out = out;
  out_after = out_after;
  err = err;
  err_after = err_after;
}

-- a line was told on `err`: it was appended, or a proper front of it was and the count rose
abbrev pub Tells : Streams → List ℕ → Type 0
Tells s line = Appended s.err s.err_after line ⊎ Broke s.err s.err_after line

-- the words are a job, and where its contents are told this is so of what it comes to
abbrev pub ComesTo : Streams → (Ending → Type 0) → Type 0
ComesTo s fact =
    IsOkAnd (job s.words)
    (λ asked. IfSome (ending asked s.files.contents (names_of asked s.words)) fact)

-- where the words are a job and its contents are told, this is so of what it comes to
abbrev pub WhereTold : Streams → (Ending → Type 0) → Type 0
WhereTold s fact =
    IfOk (job s.words)
    (λ asked. IfSome (ending asked s.files.contents (names_of asked s.words)) fact)

-- the ending is a text, and this is so of it
abbrev pub Writing : (List ℕ → Type 0) → Ending → Type 0
Writing fact (writes text) = fact text
Writing fact (refuses name refusal) = ⊥
Writing fact (lacks name) = ⊥
Writing fact (denies denial) = ⊥

-- the ending is a file that isn't there
abbrev pub Lacking : Ending → Type 0
Lacking (writes text) = ⊥
Lacking (refuses name refusal) = ⊥
Lacking (lacks name) = ⊤
Lacking (denies denial) = ⊥

-- a line of a named file was told, and where the contents are told it is the first that is refused
abbrev pub TellsRefused : Streams → Asked → Type 0
TellsRefused s asked = (name : List ℕ) × (refusal : Refusal) × Contains (names_of asked s.words) name
    × IfSome (ending asked s.files.contents (names_of asked s.words)) (λ e. e ≡ refuses name refusal)
    × Tells s (refusal_line name refusal.number refusal.reason)

-- a file was told whose count rose, and where the contents are told every file before its place was accepted; the place of a
-- certificate is after all files
abbrev pub TellsUnread : Streams → Asked → Type 0
TellsUnread s asked = (i : ℕ) × (name : List ℕ) × (slice_get (reads_of asked s.words) i ≡ Some name)
    × Rose (s.files.faults name) (s.files_after.faults name)
    × IfSome s.files.contents (λ told. IsAccepted asked told (take i (names_of asked s.words)))
    × Tells s (read_failed_line name)

-- what may be wrong with the certificate of a job
abbrev pub MayDeny : Asked → Denial → Type 0
MayDeny (certify least) too_long = ⊤
MayDeny (check least cert) (has_fault named fault) = named ≡ cert
MayDeny asked denial = ⊥

-- what is wrong with the job's certificate was told, and where the contents are told it is so
abbrev pub TellsDenied : Streams → Asked → Type 0
TellsDenied s asked = (denial : Denial) × MayDeny asked denial
    × IfSome (ending asked s.files.contents (names_of asked s.words)) (λ e. e ≡ denies denial)
    × Tells s (denial_line denial)

-- no count of `out` rose, nor that of a file or a certificate
pub record Unharmed (s : Streams) : Type 0 where
  pub files : IsOkAnd (job s.words) (λ asked. (name : List ℕ) → Contains (reads_of asked s.words) name
      → ¬ Rose (s.files.faults name) (s.files_after.faults name))
  pub out : ¬ Rose s.out.faults s.out_after.faults

-- what a run leaves of its files and streams: counts rise only where the status says so, and never fall
pub record Spares (s : Streams) (status : ℕ) : Type 0 where
  pub files_same : status ≢ 3 → s.files_after ≡ s.files
  pub files_later : (name : List ℕ) → s.files.faults name ≤ s.files_after.faults name
  pub out_same : status ≢ 4 → s.out_after.faults ≡ s.out.faults
  pub out_later : s.out.faults ≤ s.out_after.faults
  pub err_later : s.err.faults ≤ s.err_after.faults
  -- what no run changes
  pub contents : s.files_after.contents ≡ s.files.contents
  pub files_plan : s.files_after.plan ≡ s.files.plan
  pub out_plan : s.out_after.plan ≡ s.out.plan
  pub err_plan : s.err_after.plan ≡ s.err.plan

-- what a run promises of its status
pub record Runs (s : Streams) (status : ℕ) : Type 0 where
  pub within : status ≤ 6
  -- done: the whole text was appended
  pub done : status ≡ 0 → ComesTo s (Writing (Appended s.out s.out_after))
  -- a refused line: it is the first one, and the one that is told
  pub refused : status ≡ 1 → IsOkAnd (job s.words) (TellsRefused s)
  -- refused words: exactly where they are no job
  pub no_job : (status ≡ 2) ↔ IsErr (job s.words)
  pub no_job_told : IfErr (job s.words) (λ fault. Tells s (told_line (word_text fault)))
  -- a failed read of a file or a certificate
  pub unread : status ≡ 3 → IsOkAnd (job s.words) (TellsUnread s)
  -- a failed write: a proper front of the text was appended
  pub broken : status ≡ 4 → ComesTo s (Writing (Broke s.out s.out_after))
  pub broken_rose : status ≡ 4 → Rose s.out.faults s.out_after.faults
  pub broken_told : status ≡ 4 → Tells s (told_line (codes "write failed"))
  -- a certificate that isn't accepted, with its first fault, or isn't given
  pub denied : status ≡ 6 → IsOkAnd (job s.words) (TellsDenied s)
  pub memory_told : status ≡ 5 → Tells s (told_line (codes "out of memory"))
  -- where no count rose the status is that of the ending, or want of memory; a missing file raises its own count
  pub complete : WhereTold s (λ e. Unharmed s → (status ≡ status_of e) ⊎ (status ≡ 5))
  pub lacking : WhereTold s (λ e. Lacking e → (status ≡ 3) ⊎ (status ≡ 5))
  pub spares : Spares s status
