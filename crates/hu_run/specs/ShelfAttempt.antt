-- How the attempt at what is asked of a store ends: done, or with what stopped it.
use Rattle.std.specs.Prelude.{◌≡◌, ℕ, ◌+◌, ◌<◌, ◌^◌, ⊤, ℤ, None, Result, Ok, Err, List, [], ◌∷◌, IsOkAnd, IfSome}
use Rattle.std.specs.List.{Contains}
use Rattle.hu_io.specs.Count.{Rose}
use Rattle.hu_io.specs.State.{SinkState, FilesState, Appended, Broke, Missed}
use Rattle.hu_input.specs.Formats.{transaction_reading}
use Rattle.hu_input.specs.Input.{Refusal, Unread, refused_line, input_from}
use Rattle.hu_kind.specs.Record.{absolute_of}
use Rattle.hu_shelf.specs.Keeper.{KeeperState, Stays, Told}
use Rattle.hu_shelf.specs.Shelf.{absolute_sum, find_fault}
use Rattle.hu_shelf.specs.declared.fault.ShelfFault.{ShelfFault}
use Rattle.hu_shelf.specs.declared.fault.ShelfFault.TheVariants as shelf
use Rattle.hu_run.specs.declared.stop.Stop.{Stop}
use Rattle.hu_run.specs.declared.stop.Stop.TheVariants.{Words, Refused, ReadFailed, WriteFailed, NoMemory}
use Rattle.hu_run.specs.declared.shelf.fault.StoreFault.{StoreFault}
use Rattle.hu_run.specs.declared.shelf.fault.StoreFault.TheVariants.{Absent, Present, Damaged, TooLarge}
use Rattle.hu_run.specs.declared.shelf.stop.ShelfStop.{ShelfStop}
use Rattle.hu_run.specs.declared.shelf.stop.ShelfStop.TheVariants.{Job, Declined, StoreFailed}
use Rattle.hu_run.specs.ShelfJob.{Shelving, add, shelf_job, store_name, file_names}
use Rattle.hu_run.specs.ShelfEnding.{declines, refuses}
use Rattle.hu_run.specs.ShelfRun.{Finds, HasLeft}

-- files, `out` and the keeper, before and after
pub record Scene : Type 0 where
  pub files : FilesState
  pub files_after : FilesState
  pub out : SinkState
  pub out_after : SinkState
  pub keeper : KeeperState
  pub keeper_after : KeeperState

abbrev pub scene : FilesState → FilesState → SinkState → SinkState → KeeperState → KeeperState → Scene
scene files files_after out out_after keeper keeper_after = record {
  files = files;
  files_after = files_after;
  out = out;
  out_after = out_after;
  keeper = keeper;
  keeper_after = keeper_after;
}

-- the fault of the shelf that is told by this one
abbrev pub shelf_fault : StoreFault → ShelfFault
shelf_fault Absent = shelf.Absent
shelf_fault Present = shelf.Present
shelf_fault Damaged = shelf.Damaged
shelf_fault TooLarge = shelf.TooLarge

-- a fault of the shelf of a name as a stop
abbrev pub IsStopOf : List ℕ → ShelfFault → ShelfStop → Type 0
IsStopOf name fault (Declined named told) = (named.now ≡ name) × (fault ≡ shelf_fault told)
IsStopOf name fault (StoreFailed named) = (named.now ≡ name) × (fault ≡ shelf.KeeperFailed)
IsStopOf name fault (Job NoMemory) = fault ≡ shelf.NoMemory
IsStopOf name fault (Job stop) = ⊥

-- a call on the store of a name was stopped, and no text changed
abbrev pub StopsCall : KeeperState → KeeperState → List ℕ → (StoreFault → Type 0) → ShelfStop → Type 0
StopsCall old new name IsSuch (Declined named fault) = (named.now ≡ name) × IsSuch fault × Stays old new
StopsCall old new name IsSuch (StoreFailed named) =
    (named.now ≡ name) × Rose (old.faults name) (new.faults name) × Stays old new
StopsCall old new name IsSuch (Job NoMemory) = Stays old new
StopsCall old new name IsSuch (Job stop) = ⊥

-- what the one file gives after a sum, where the contents are told
abbrev pub IfRead : FilesState → ℕ → List (List ℕ) → (Result (List (List (ℕ × ℤ))) Unread → Type 0) → Type 0
IfRead files sum names IsSo =
    IfSome files.contents (λ told. IsSo (input_from transaction_reading absolute_of told 0 sum names))

-- the file was read to its end after a sum
pub record HasRead (sum : ℕ) (old new : FilesState) (names : List (List ℕ))
    (records : List (List (ℕ × ℤ))) : Type 0 where
  pub same : new ≡ old
  pub fits : sum + absolute_sum records < 2 ^ 127
  pub read : IfRead old sum names (λ given. given ≡ Ok records)

-- it gave no records
abbrev pub StopsRead : ℕ → FilesState → FilesState → List (List ℕ) → Stop → Type 0
StopsRead sum old new names (Refused name number reason) = (new ≡ old) × Contains names name.now
    × IfRead old sum names
    (λ given. given ≡ Err (refused_line name.now (record { number = number; reason = reason })))
StopsRead sum old new names (ReadFailed name) = Missed old new name.now × Contains names name.now
StopsRead sum old new names NoMemory = new ≡ old
StopsRead sum old new names stop = ⊥

-- files and `out` are as before, and no text changed
pub record Untouched (sc : Scene) : Type 0 where
  pub files : sc.files_after ≡ sc.files
  pub out : sc.out_after ≡ sc.out
  pub keeper : Stays sc.keeper sc.keeper_after

-- a store was left, and this is so of what was written
pub record Leaves (asked : Shelving) (sc : Scene) (Wrote : List ℕ → Type 0) : Type 0 where
  pub finds : Finds sc.keeper sc.files asked (HasLeft sc.keeper sc.keeper_after asked Wrote)
  pub files : sc.files_after ≡ sc.files

-- a line of the file is refused
pub record HasRefusal (asked : Shelving) (sc : Scene) (name : List ℕ) (refusal : Refusal) : Type 0 where
  pub named : Contains (file_names asked) name
  pub finds : Finds sc.keeper sc.files asked (λ e. e ≡ refuses name refusal)
  pub untouched : Untouched sc

-- a read of the file failed, and the store is there
pub record HasMissed (asked : Shelving) (sc : Scene) (name : List ℕ) : Type 0 where
  pub named : Contains (file_names asked) name
  pub there : Told sc.keeper (store_name asked) (λ text. find_fault text ≡ None)
  pub missed : Missed sc.files sc.files_after name
  pub out : sc.out_after ≡ sc.out
  pub keeper : Stays sc.keeper sc.keeper_after

-- the store doesn't allow it
pub record HasFault (asked : Shelving) (sc : Scene) (name : List ℕ) (fault : StoreFault) : Type 0 where
  pub named : name ≡ store_name asked
  pub finds : Finds sc.keeper sc.files asked (λ e. e ≡ declines fault)
  pub untouched : Untouched sc

-- the keeper failed
pub record HasFailed (asked : Shelving) (sc : Scene) (name : List ℕ) : Type 0 where
  pub named : name ≡ store_name asked
  pub rose : Rose (sc.keeper.faults name) (sc.keeper_after.faults name)
  pub untouched : Untouched sc

-- why what is asked was not done
abbrev pub StopsShelf : Shelving → Scene → ShelfStop → Type 0
StopsShelf asked sc (Declined name fault) = HasFault asked sc name.now fault
StopsShelf asked sc (StoreFailed name) = HasFailed asked sc name.now
StopsShelf asked sc (Job (Refused name number reason)) =
    HasRefusal asked sc name.now (record { number = number; reason = reason })
StopsShelf asked sc (Job (ReadFailed name)) = HasMissed asked sc name.now
StopsShelf asked sc (Job WriteFailed) = Leaves asked sc (Broke sc.out sc.out_after)
StopsShelf asked sc (Job NoMemory) = Untouched sc
StopsShelf asked sc (Job stop) = ⊥

-- how what is asked ended
abbrev pub ShelfEnds : Shelving → Scene → Result (Unit {0}) ShelfStop → Type 0
ShelfEnds asked sc (Ok _) = Leaves asked sc (Appended sc.out sc.out_after)
ShelfEnds asked sc (Err stop) = StopsShelf asked sc stop

-- all is as before
pub record Unmoved (sc : Scene) : Type 0 where
  pub files : sc.files_after ≡ sc.files
  pub out : sc.out_after ≡ sc.out
  pub keeper : sc.keeper_after ≡ sc.keeper

-- how the attempt at what the words ask ended
abbrev pub Attempts : List (List ℕ) → Scene → Result (Unit {0}) ShelfStop → Type 0
Attempts words sc (Err (Job (Words fault))) = (shelf_job words ≡ Err fault) × Unmoved sc
Attempts words sc result = IsOkAnd (shelf_job words) (λ asked. ShelfEnds asked sc result)

-- where the text wasn't begun, `out` is as before
abbrev pub KeepsOut : {O : Type 0} → Result (Unit {0}) ShelfStop → O → O → Type 0
KeepsOut (Ok _) old new = ⊤
KeepsOut (Err (Job WriteFailed)) old new = ⊤
KeepsOut (Err stop) old new = new ≡ old

-- the file that is named
abbrev pub AreFiles : Shelving → List (List ℕ) → Type 0
AreFiles (add name file) names = names ≡ file ∷ []
AreFiles asked names = ⊤
