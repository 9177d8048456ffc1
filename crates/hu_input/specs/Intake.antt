-- What is so far taken in of the files of a run, and what it makes of the bytes to come.
use Rattle.std.specs.Prelude.{
  ◌≡◌,
  ℕ,
  ◌+◌,
  ◌<◌,
  ◌≤◌,
  ◌^◌,
  false,
  None,
  Result,
  Ok,
  Err,
  IfSome,
  IsSomeAnd,
  List,
  [],
  ◌++◌,
  length,
  drop,
}
use Rattle.std.specs.Option.{option_to_list}
use Rattle.hu_base.specs.Base.{carried_of, records_of, sum_of}
use Rattle.hu_io.specs.State.{FilesState, Missed}
use Rattle.hu_lines.specs.Pieces.{pieces, line_of}
use Rattle.hu_lines.specs.Lines.{State, begun, at_end, IsHeld}
use Rattle.hu_lines.specs.declared.limits.LineFault.{LineFault}
use Rattle.hu_lines.specs.declared.limits.LineFault.TheVariants as limit
use Rattle.hu_input.specs.declared.reason.Reason.{Reason}
use Rattle.hu_input.specs.declared.reason.Reason.TheVariants.{LineTooLong, InputTooLarge}
use Rattle.hu_input.specs.declared.intake.LineStop.{LineStop}
use Rattle.hu_input.specs.declared.intake.LineStop.TheVariants as line
use Rattle.hu_input.specs.declared.input.InputStop.{InputStop}
use Rattle.hu_input.specs.declared.input.InputStop.TheVariants.{Refused, ReadFailed, NoMemory}
use Rattle.hu_input.specs.View.{View}
use Rattle.hu_input.specs.Input.{Refusal, with_front, line_record, records_from}
use Rattle.hu_input.specs.Input as spec

-- where taking in stops at a limit that is passed
abbrev pub limit_stop : LineFault → LineStop
limit_stop (limit.LineTooLong number) = line.Refused number LineTooLong
limit_stop (limit.InputTooLarge number) = line.Refused number InputTooLarge

-- how many bytes of the run were taken in
abbrev pub bytes_in : State → ℕ
bytes_in s = s.before + length s.bytes

-- the file is open, and nothing was refused
pub record IsOpen (s : State) : Type 0 where
  pub not_ended : s.ended ≡ false
  pub accepted : s.refused ≡ None
  pub held : IsHeld s

-- nothing of a file was taken in
pub record IsAtStart (s : State) : Type 0 where
  pub opened : IsOpen s
  pub nothing : s.bytes ≡ []
  pub unfinished : s.whole ≡ false
  pub first : s.number ≡ 1

-- ready for the first byte of a file: no byte and no record of it is held
pub record IsFresh {R : Type 0} (v : View R) : Type 0 where
  pub start : IsAtStart v.lines
  pub none : records_of v.base ≡ []

-- what is so of the content of a file, where it is told: the file is then there
abbrev pub IfHas : FilesState → List ℕ → (List ℕ → Type 0) → Type 0
IfHas files name IsSo = IfSome files.contents (λ told. IsSomeAnd (told name) IsSo)

-- where a line is refused, this is so
abbrev pub IfRefused : (Refusal → Type 0) → LineStop → Type 0
IfRefused IsSo (line.Refused number reason) = IsSo (record { number = number; reason = reason })
IfRefused IsSo line.NoMemory = Unit {0}

-- the reading of a file stopped: a line is refused, and this is so of it and the content; or a read failed; or there is
-- no memory
abbrev pub StopsAt : FilesState → FilesState → List ℕ → (Refusal → List ℕ → Type 0) → InputStop → Type 0
StopsAt old new name IsSo (Refused at number reason) =
    (at.now ≡ name) × (new ≡ old) × IfHas old name (IsSo (record { number = number; reason = reason }))
StopsAt old new name IsSo (ReadFailed at) = (at.now ≡ name) × Missed old new name
StopsAt old new name IsSo NoMemory = new ≡ old

-- a stop at a line as a stop at a file of this name
abbrev pub IsStopAt : List ℕ → LineStop → InputStop → Type 0
IsStopAt name (line.Refused number reason) (Refused at n r) = (at.now ≡ name) × (n ≡ number) × (r ≡ reason)
IsStopAt name line.NoMemory NoMemory = Unit {0}
IsStopAt name stop result = ⊥

module _ {R : Type 0} (reading : List ℕ → Result R Reason) (absolute : R → ℕ) where
  -- all records, where the bytes held of line `number`, which begins after `before` bytes of the run, are followed by
  -- these and then the file ends
  abbrev pub outcome_at : ℕ → ℕ → List ℕ → ℕ × List R → List ℕ → Result (List R) Refusal
  outcome_at number before bytes base tail =
      with_front (records_of base) (records_from reading absolute number before
      (sum_of absolute base) (pieces (bytes ++ tail)))

  -- the same for the line that is held next
  abbrev pub outcome : State → ℕ × List R → List ℕ → Result (List R) Refusal
  outcome s base tail = outcome_at (begun s).number (begun s).before (begun s).bytes base tail

  -- a line was judged: its record, if it has one, joined the base; or it is refused for the reason that it has
  abbrev pub Judges : State → ℕ × List R → ℕ × List R → Result (Unit {0}) LineStop → Type 0
  Judges s old new (Ok _) =
      (r : _) × (line_record reading absolute (sum_of absolute old) (line_of s.bytes) ≡ Ok r)
      × (new ≡ (carried_of old, records_of old ++ option_to_list r))
  Judges s old new (Err (line.Refused number reason)) =
      (line_record reading absolute (sum_of absolute old) (line_of s.bytes) ≡ Err reason)
      × (number ≡ s.number)
  Judges s old new (Err line.NoMemory) = Unit {0}

  -- n more bytes were taken in, the front of these, whatever comes after them
  pub record Took (old new : View R) (bytes : List ℕ) (n : ℕ) : Type 0 where
    pub opened : IsOpen new.lines
    pub count : bytes_in new.lines ≡ bytes_in old.lines + n
    pub carried : carried_of new.base ≡ carried_of old.base
    pub within : n ≤ length bytes
    pub some : 0 < length bytes → 0 < n
    pub outcome : (tail : List ℕ) → outcome new.lines new.base (drop n bytes ++ tail)
        ≡ outcome old.lines old.base (bytes ++ tail)

  -- of these bytes a line is refused, whatever comes after them
  abbrev pub Refuses : View R → List ℕ → LineStop → Type 0
  Refuses old bytes stop =
      IfRefused (λ refusal. (tail : List ℕ) → outcome old.lines old.base (bytes ++ tail)
      ≡ Err refusal) stop

  -- at the end of the file the line that is held is refused
  abbrev pub RefusesLast : View R → LineStop → Type 0
  RefusesLast old stop = IfRefused (λ refusal. outcome old.lines old.base [] ≡ Err refusal) stop

  -- the file ended, and its records are all in
  pub record Ends (old new : View R) : Type 0 where
    pub lines : new.lines ≡ at_end old.lines
    pub carried : carried_of new.base ≡ carried_of old.base
    pub records : outcome old.lines old.base [] ≡ Ok (records_of new.base)

  -- the file ended: these are its records, and the next file is ready, after its bytes and its sum
  pub record Closes (old new : View R) (base : ℕ × List R) : Type 0 where
    pub fresh : IsFresh new
    pub before : new.lines.before ≡ bytes_in old.lines
    pub sum : carried_of new.base ≡ sum_of absolute base
    pub carried : carried_of base ≡ carried_of old.base
    pub records : outcome old.lines old.base [] ≡ Ok (records_of base)
    pub fits : sum_of absolute base < 2 ^ 127

  -- n bytes of a file from a place on were read and taken in, none only at its end
  pub record TookPiece (v w : View R) (old new : FilesState) (name : List ℕ) (at n : ℕ) : Type 0 where
    pub same : new ≡ old
    pub opened : IsOpen w.lines
    pub count : bytes_in w.lines ≡ bytes_in v.lines + n
    pub carried : carried_of w.base ≡ carried_of v.base
    pub told : IfHas old name (λ content. at ≤ length content
        → (at + n ≤ length content) × (n ≡ 0 → length content ≡ at)
        × (outcome w.lines w.base (drop (at + n) content) ≡ outcome v.lines v.base (drop at content)))

  -- of the content of a file from a place on a line is refused
  abbrev pub RefusesPiece : View R → ℕ → Refusal → List ℕ → Type 0
  RefusesPiece v at refusal content = at ≤ length content → outcome v.lines v.base (drop at content)
      ≡ Err refusal

  -- what the reading of a piece of a file answers
  abbrev pub ReadsPiece : View R → View R → FilesState → FilesState → List ℕ → ℕ → Result ℕ InputStop → Type 0
  ReadsPiece v w old new name at (Ok n) = TookPiece v w old new name at n
  ReadsPiece v w old new name at (Err stop) = StopsAt old new name (RefusesPiece v at) stop

  -- a file was read to its end: these are its records, and the next is ready, after its bytes and its sum
  pub record TookFile (v w : View R) (old new : FilesState) (name : List ℕ) (base : ℕ × List R) : Type 0 where
    pub same : new ≡ old
    pub fresh : IsFresh w
    pub sum : carried_of w.base ≡ sum_of absolute base
    pub carried : carried_of base ≡ carried_of v.base
    pub fits : sum_of absolute base < 2 ^ 127
    pub told : IfHas old name (λ content. (w.lines.before ≡ v.lines.before + length content)
        × (spec.records_of reading absolute v.lines.before (carried_of v.base) content
        ≡ Ok (records_of base)))

  -- a line of a file is refused
  abbrev pub RefusesFile : View R → Refusal → List ℕ → Type 0
  RefusesFile v refusal content =
      spec.records_of reading absolute v.lines.before (carried_of v.base) content ≡ Err refusal

  -- what the reading of a file answers
  abbrev pub ReadsFile : View R → View R → FilesState → FilesState → List ℕ
      → Result (ℕ × List R) InputStop → Type 0
  ReadsFile v w old new name (Ok base) = TookFile v w old new name base
  ReadsFile v w old new name (Err stop) = StopsAt old new name (RefusesFile v) stop
