-- What the reading of the content of a file answers. The content counts where it is told.
use Rattle.std.specs.Prelude.{
  ◌≡◌,
  ℕ,
  ◌+◌,
  ◌≤◌,
  ◌↔◌,
  Result,
  Ok,
  Err,
  List,
  ◌++◌,
  length,
  take,
  drop,
  IfSome,
  IsSomeAnd,
}
use Rattle.std.specs.declared.vec.Vec.{Vec}
use Rattle.std.specs.declared.alloc.Global.{Global}
use Rattle.hu_io.specs.State.{FilesState, Missed}
use Rattle.hu_input.specs.declared.input.InputStop.{InputStop}
use Rattle.hu_input.specs.declared.input.InputStop.TheVariants.{Refused, ReadFailed, NoMemory}

-- where the contents are told, the file is there, and this is so of its content
abbrev pub WhereThere : FilesState → List ℕ → (List ℕ → Type 0) → Type 0
WhereThere files name IsSo = IfSome files.contents (λ told. IsSomeAnd (told name) IsSo)

-- a read of the file failed
pub record FailsToRead (old new : FilesState) (name failed : List ℕ) : Type 0 where
  pub named : failed ≡ name
  pub missed : Missed old new name

-- why a file wasn't read
abbrev pub StopsReading : FilesState → FilesState → List ℕ → InputStop → Type 0
StopsReading old new name (ReadFailed failed) = FailsToRead old new name failed.now
StopsReading old new name NoMemory = new ≡ old
StopsReading old new name (Refused failed number reason) = ⊥

-- the first bytes of the file
pub record HasContent (most : ℕ) (old new : FilesState) (name read : List ℕ) : Type 0 where
  pub same : new ≡ old
  pub content : WhereThere old name (λ content. read ≡ take most content)

-- the first bytes of a file, or why it wasn't read
abbrev pub ReadsContent : ℕ → FilesState → FilesState → List ℕ → Result (Vec ℕ Global) InputStop → Type 0
ReadsContent most old new name (Ok bytes) = HasContent most old new name bytes.items
ReadsContent most old new name (Err stop) = StopsReading old new name stop

-- some bytes more of the file, and none only at its end
pub record HasMore (old new : FilesState) (name front more : List ℕ) (count : ℕ) : Type 0 where
  pub same : new ≡ old
  pub grown : length more ≡ length front + count
  pub bytes : WhereThere old name (λ content. more ≡ front ++ take count (drop (length front) content))
  pub end : WhereThere old name (λ content. (count ≡ 0) ↔ (length content ≤ length front))

abbrev pub ReadsOn : FilesState → FilesState → List ℕ → List ℕ → List ℕ → Result ℕ InputStop → Type 0
ReadsOn old new name front more (Ok count) = HasMore old new name front more count
ReadsOn old new name front more (Err stop) = StopsReading old new name stop
