-- What the reading of the files of a job answers. The contents count where the files tell them.
use Rattle.std.specs.Prelude.{
  ◌≡◌,
  ℕ,
  ◌+◌,
  ◌<◌,
  ◌^◌,
  ℤ,
  unsigned_abs,
  Some,
  Result,
  Ok,
  Err,
  List,
  length,
  take,
  slice_get,
  Contains,
  IsOk,
  IfSome,
}
use Rattle.std.specs.List.{sum_by}
use Rattle.std.specs.declared.vec.Vec.{Vec}
use Rattle.std.specs.declared.alloc.Global.{Global}
use Rattle.hu_base.specs.Base.{records_in}
use Rattle.hu_io.specs.State.{FilesState, Missed}
use Rattle.hu_input.specs.declared.reason.Reason.{Reason}
use Rattle.hu_input.specs.declared.input.InputStop.{InputStop}
use Rattle.hu_input.specs.declared.input.InputStop.TheVariants.{Refused, ReadFailed, NoMemory}
use Rattle.hu_input.specs.Input.{Refusal, Unread, refused_line, input_from}

module _ {R : Type 0} (reading : List ℕ → Result R Reason) (absolute : R → ℕ) where
  -- what is so of the input of named files after a sum, where the contents are told
  abbrev pub IfTold : FilesState → ℕ → List (List ℕ) → (Result (List R) Unread → Type 0) → Type 0
  IfTold files sum names IsSo =
      IfSome files.contents (λ told. IsSo (input_from reading absolute told 0 sum names))

  -- each file was read to its end and has a base: the first n bases hold the records of the first n files, and all of all
  pub record ReadsAll (sum : ℕ) (old new : FilesState) (names : List (List ℕ))
      (bases : List (ℕ × List R)) : Type 0 where
    pub same : new ≡ old
    pub fits : sum + sum_by absolute (records_in bases) < 2 ^ 127
    pub one_each : length bases ≡ length names
    pub all : IfTold old sum names (λ input. input ≡ Ok (records_in bases))
    pub front : (n : ℕ) → IfTold old sum (take n names) (λ input. input ≡ Ok (records_in (take n bases)))

  -- this line of this file is the first that is refused
  pub record Refuses (sum : ℕ) (old new : FilesState) (names : List (List ℕ)) (name : List ℕ)
      (line : Refusal) : Type 0 where
    pub same : new ≡ old
    pub named : Contains names name
    pub first : IfTold old sum names (λ input. input ≡ Err (refused_line name line))

  -- a read of the file at a place among the names failed, and the files before it are accepted
  pub record FailsAt (sum : ℕ) (old new : FilesState) (names : List (List ℕ)) (name : List ℕ)
      (place : ℕ) : Type 0 where
    pub named : slice_get names place ≡ Some name
    pub missed : Missed old new name
    pub accepted : IfTold old sum (take place names) IsOk

  -- what the reading of named files answers after a carried sum
  abbrev pub ReadsFiles : ℤ → FilesState → FilesState → List (List ℕ)
      → Result (Vec (ℕ × List R) Global) InputStop → Type 0
  ReadsFiles carried old new names (Ok bases) = ReadsAll (unsigned_abs carried) old new names bases.items
  ReadsFiles carried old new names (Err (Refused name number reason)) =
      Refuses (unsigned_abs carried) old new names name.now (record { number = number; reason = reason })
  ReadsFiles carried old new names (Err (ReadFailed name)) =
      (place : ℕ) × FailsAt (unsigned_abs carried) old new names name.now place
  ReadsFiles carried old new names (Err NoMemory) = new ≡ old
