-- What a keeper is seen as, and what its calls make of it.
use Rattle.std.specs.Prelude.{
  ◌≡◌,
  ℕ,
  ◌≤◌,
  ⊤,
  List,
  Option,
  MatchOption,
  Result,
  Ok,
  Err,
  MatchResult,
  if◌then◌else◌,
}
use Rattle.std.specs.Option.{option_map}
use Rattle.std.specs.Str.{bytes_eq}
use Rattle.hu_io.specs.Count.{Rose}
use Rattle.hu_io.specs.Files.{Gives}
use Rattle.hu_shelf.specs.declared.keeper.KeepFault.{KeepFault}
use Rattle.hu_shelf.specs.declared.keeper.KeepFault.TheVariants.{Failed, NoMemory}

-- the text of each name where a keeper tells them, its count of faults of each name, and the calls that are to fail by a
-- test's plan; a name that isn't there has the empty text
pub record KeeperState : Type 0 where
  pub texts : Option (List ℕ → List ℕ)
  pub faults : List ℕ → ℕ
  pub plan : List ℕ

-- where the texts are told, the text of a name is such a one
abbrev pub Told : KeeperState → List ℕ → (List ℕ → Type 0) → Type 0
Told state name IsSuch = MatchOption state.texts ⊤ (λ texts. IsSuch (texts name))

-- texts with this one under a name, and every other name's as before
abbrev pub with_text : List ℕ → List ℕ → (List ℕ → List ℕ) → List ℕ → List ℕ
with_text name text texts other = if bytes_eq name other then text else texts other

-- a keeper with this text under a name, and all else as before
abbrev pub keeping_text : List ℕ → List ℕ → KeeperState → KeeperState
keeping_text name text state = record state { texts = option_map (with_text name text) state.texts }

-- no text changed and no count fell
pub record Stays (old new : KeeperState) : Type 0 where
  pub texts : new.texts ≡ old.texts
  pub later : (name : List ℕ) → old.faults name ≤ new.faults name
  pub plan : new.plan ≡ old.plan

-- and the count of a name rose
pub record Fails (old new : KeeperState) (name : List ℕ) : Type 0 where
  pub rose : Rose (old.faults name) (new.faults name)
  pub stays : Stays old new

-- n bytes of a name's text were read from a place on, and all is as before
pub record Loaded (old new : KeeperState) (name : List ℕ) (at : ℕ) (into : List ℕ) (n : ℕ) : Type 0 where
  pub told : Told old name (λ text. Gives text at n into)
  pub same : new ≡ old

-- one call of `load`
abbrev pub Loads : {E : Type 0} → KeeperState → KeeperState → List ℕ → ℕ → List ℕ → Result ℕ E → Type 0
Loads old new name at into result =
    MatchResult result (λ n. Loaded old new name at into n) (λ _. Fails old new name)

-- one call of `replace`
abbrev pub Replaces : KeeperState → KeeperState → List ℕ → List ℕ → Result (Unit {0}) KeepFault → Type 0
Replaces old new name text (Ok _) = new ≡ keeping_text name text old
Replaces old new name text (Err Failed) = Fails old new name
Replaces old new name text (Err NoMemory) = Stays old new
