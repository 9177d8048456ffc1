-- How the attempt at a job ends: with an answer, or with what stopped it.
use Rattle.std.specs.Prelude.{
  ◌≡◌,
  ℕ,
  ℤ,
  Some,
  Result,
  Ok,
  Err,
  List,
  ◌++◌,
  take,
  slice_get,
  IsOkAnd,
  IfSome,
  ⊤,
}
use Rattle.std.specs.List.{Contains}
use Rattle.hu_io.specs.State.{SinkState, FilesState, Appended, Broke, Missed}
use Rattle.hu_input.specs.Input.{Refusal}
use Rattle.hu_run.specs.declared.stop.Stop.{Stop}
use Rattle.hu_run.specs.declared.stop.Stop.TheVariants.{
  Words,
  Refused,
  ReadFailed,
  Denied,
  TooLong,
  WriteFailed,
  NoMemory,
}
use Rattle.hu_run.specs.declared.answer.Answer.{Answer}
use Rattle.hu_run.specs.Answer.{text_of}
use Rattle.hu_run.specs.Run.{MayDeny}
use Rattle.hu_run.specs.Job.{Asked, job, names_of, certificate_of}
use Rattle.hu_run.specs.Ending.{
  Denial,
  has_fault,
  too_long,
  writes,
  refuses,
  denies,
  ending,
  judging_ending,
  IsAccepted,
}
use Rattle.hu_proof.specs.Check.{first_fault}

-- the job comes to a text, and the files are as before
pub record HasText (asked : Asked) (old new : FilesState) (names : List (List ℕ))
    (text : List ℕ) : Type 0 where
  pub ending : IfSome (ending asked old.contents names) (λ e. e ≡ writes text)
  pub same : new ≡ old

-- a line of a named file is refused, and the files are as before
pub record HasRefusal (asked : Asked) (old new : FilesState) (names : List (List ℕ)) (name : List ℕ)
    (refusal : Refusal) : Type 0 where
  pub named : Contains names name
  pub ending : IfSome (ending asked old.contents names) (λ e. e ≡ refuses name refusal)
  pub same : new ≡ old

-- a read of a file or a certificate failed, and every file before its place was accepted
pub record HasFailed (asked : Asked) (old new : FilesState) (names : List (List ℕ))
    (name : List ℕ) : Type 0 where
  pub place : ℕ
  pub named : slice_get (names ++ certificate_of asked) place ≡ Some name
  pub accepted : IfSome old.contents (λ told. IsAccepted asked told (take place names))
  pub missed : Missed old new name

-- the certificate isn't accepted or isn't given, and the files are as before
pub record HasDenial (asked : Asked) (old new : FilesState) (names : List (List ℕ))
    (denial : Denial) : Type 0 where
  pub may : MayDeny asked denial
  pub ending : IfSome (ending asked old.contents names) (λ e. e ≡ denies denial)
  pub same : new ≡ old

-- why a job came to no answer
abbrev pub StopsAt : Asked → FilesState → FilesState → List (List ℕ) → Stop → Type 0
StopsAt asked old new names (Words fault) = ⊥
StopsAt asked old new names (Refused name number reason) =
    HasRefusal asked old new names name.now (record { number = number; reason = reason })
StopsAt asked old new names (ReadFailed name) = HasFailed asked old new names name.now
StopsAt asked old new names (Denied cert fault) = HasDenial asked old new names (has_fault cert.now fault)
StopsAt asked old new names TooLong = HasDenial asked old new names too_long
StopsAt asked old new names WriteFailed = ⊥
StopsAt asked old new names NoMemory = new ≡ old

-- the answer of a job over its files, or why it came to none
abbrev pub Answers : Asked → FilesState → FilesState → List (List ℕ) → Result Answer Stop → Type 0
Answers asked old new names (Ok answer) = HasText asked old new names (text_of answer)
Answers asked old new names (Err stop) = StopsAt asked old new names stop

-- the answer of a check over records and a text, or why it came to none
abbrev pub Judges : ℤ → List ℕ → List (List (ℕ × ℤ)) → List ℕ → Result Answer Stop → Type 0
Judges least cert records text (Ok answer) =
    judging_ending least cert records (first_fault records least text) ≡ writes (text_of answer)
Judges least cert records text (Err (Denied named fault)) =
    (judging_ending least cert records (first_fault records least text)
    ≡ denies (has_fault cert fault)) × (named.now ≡ cert)
Judges least cert records text (Err NoMemory) = ⊤
Judges least cert records text (Err stop) = ⊥

-- what the words ask for came to a text, and this is so of it
abbrev pub Puts : List (List ℕ) → FilesState → FilesState → (List ℕ → Type 0) → Type 0
Puts words old new fact =
    IsOkAnd (job words) (λ asked. (text : List ℕ)
    × HasText asked old new (names_of asked words) text × fact text)

-- how the attempt at what words ask for ended
abbrev pub Ends : List (List ℕ) → FilesState → FilesState → SinkState → SinkState
    → Result (Unit {0}) Stop → Type 0
Ends words old new out out_after (Ok _) = Puts words old new (Appended out out_after)
Ends words old new out out_after (Err (Words fault)) =
    (job words ≡ Err fault) × (new ≡ old) × (out_after ≡ out)
Ends words old new out out_after (Err WriteFailed) = Puts words old new (Broke out out_after)
Ends words old new out out_after (Err stop) =
    IsOkAnd (job words) (λ asked. StopsAt asked old new (names_of asked words) stop)
    × (out_after ≡ out)

-- where the text wasn't begun, `out` is as before
abbrev pub KeepsOut : {O : Type 0} → Result (Unit {0}) Stop → O → O → Type 0
KeepsOut (Ok _) old new = ⊤
KeepsOut (Err WriteFailed) old new = ⊤
KeepsOut (Err stop) old new = new ≡ old
