-- What sinks and files are seen as, and what calls make of it.
use Rattle.std.specs.Prelude.{◌≡◌, ℕ, ◌<◌, ◌≤◌, List, length, take, Option, Result, MatchResult}
use Rattle.std.specs.Io.KnownBytes.{Appends, Keeps}
use Rattle.hu_io.specs.Count.{Rose}
use Rattle.hu_io.specs.Files.{GivesTold}

-- what a sink is seen as: the bytes put so far where it tells them, its count of faults, and its plan
pub record SinkState : Type 0 where
  pub bytes : Option (List ℕ)
  pub faults : ℕ
  pub plan : List ℕ

-- what files are seen as: the contents by name where they are told, the count of faults of each name, and their plan
pub record FilesState : Type 0 where
  pub contents : Option (List ℕ → Option (List ℕ))
  pub faults : List ℕ → ℕ
  pub plan : List ℕ

-- a text was appended and nothing failed: the count and the plan are as before
pub record Appended (old new : SinkState) (text : List ℕ) : Type 0 where
  pub bytes : Appends old.bytes new.bytes text
  pub faults : new.faults ≡ old.faults
  pub plan : new.plan ≡ old.plan

-- a proper front of a text was appended, and the count rose
pub record Broke (old new : SinkState) (text : List ℕ) : Type 0 where
  pub front : (k : ℕ) × (k < length text) × Appends old.bytes new.bytes (take k text)
  pub rose : Rose old.faults new.faults
  pub later : old.faults ≤ new.faults
  pub plan : new.plan ≡ old.plan

-- a text goes out: after Ok all of it and nothing failed, after Failed a proper front of it and the count rose
abbrev pub PutsAll : {E : Type 0} → SinkState → SinkState → Result (Unit {0}) E → List ℕ → Type 0
PutsAll old new result text = MatchResult result (λ _. Appended old new text) (λ _. Broke old new text)

-- the first n bytes of a piece were appended, some of it unless it is empty
pub record Took (old new : SinkState) (piece : List ℕ) (n : ℕ) : Type 0 where
  pub within : n ≤ length piece
  pub some : 0 < length piece → 0 < n
  pub front : Appended old new (take n piece)

-- nothing was appended, and the count rose
pub record Lost (old new : SinkState) : Type 0 where
  pub bytes : Keeps old.bytes new.bytes
  pub rose : Rose old.faults new.faults
  pub later : old.faults ≤ new.faults
  pub plan : new.plan ≡ old.plan

-- one call of `put`: Ok(n) took the first n bytes of the piece and nothing failed, Failed took nothing
abbrev pub Puts : {E : Type 0} → SinkState → SinkState → List ℕ → Result ℕ E → Type 0
Puts old new piece result = MatchResult result (λ n. Took old new piece n) (λ _. Lost old new)

-- n bytes of a name were read from a place on, and all is as before
pub record Got (old new : FilesState) (name : List ℕ) (at : ℕ) (into : List ℕ) (n : ℕ) : Type 0 where
  pub told : GivesTold old.contents name at into n
  pub same : new ≡ old

-- the count of a name rose, that of no other fell, and contents and plan are as before
pub record Missed (old new : FilesState) (name : List ℕ) : Type 0 where
  pub rose : Rose (old.faults name) (new.faults name)
  pub later : (other : List ℕ) → old.faults other ≤ new.faults other
  pub contents : new.contents ≡ old.contents
  pub plan : new.plan ≡ old.plan

-- one call of `get`: Ok(n) read n bytes and nothing failed, after Failed the count of the called name rose
abbrev pub Gets : {E : Type 0} → FilesState → FilesState → List ℕ → ℕ → List ℕ → Result ℕ E → Type 0
Gets old new name at into result =
    MatchResult result (λ n. Got old new name at into n) (λ _. Missed old new name)
