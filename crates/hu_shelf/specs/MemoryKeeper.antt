-- A keeper in memory, of which chosen calls fail.
use Rattle.std.specs.Prelude.{◌≡◌, ℕ, ◌-◌, ◌==◌, min, List, [], ◌∷◌, length, codes, refl, Some, if◌then◌else◌}
use Rattle.hu_io.specs.Count.{one_more, Rose}
use Rattle.hu_io.specs.Files.{content_or_empty}
use Rattle.hu_io.specs.Plan.{PlanView, after_call, listing, next_fails, no_plan}
use Rattle.hu_shelf.specs.Keeper.{KeeperState, with_text}

-- what is seen of a `MemoryKeeper`: the pairs of names and texts that were put, its plan, and how many calls failed by it
pub record KeeperView : Type 0 where
  pub pairs : List (List ℕ × List ℕ)
  pub plan : PlanView
  pub failed : ℕ

-- no text, no plan and no fault
abbrev pub empty_keeper : KeeperView
empty_keeper = record { pairs = []; plan = no_plan; failed = 0 }

-- the text of each name, empty where none was put
abbrev pub texts_of : KeeperView → List ℕ → List ℕ
texts_of m = content_or_empty m.pairs

-- the calls that failed, 0 while no call is listed
abbrev pub keeper_faults : KeeperView → ℕ
keeper_faults m = if length m.plan.failing == 0 then 0 else m.failed

-- what the trait sees of it: one count for all names
abbrev pub keeper_state : KeeperView → KeeperState
keeper_state m = record { texts = Some (texts_of m); faults = λ _. keeper_faults m; plan = m.plan.failing }

-- the keeper after a call that changed no text: the count rose where the call was to fail
abbrev pub after_load : KeeperView → KeeperView
after_load m =
    if next_fails m.plan then record m { plan = after_call m.plan; failed = one_more m.failed }
    else record m { plan = after_call m.plan }

-- a text was put under a name by a call that wasn't to fail
pub record AfterReplace (old new : KeeperView) (name text : List ℕ) : Type 0 where
  pub texts : texts_of new ≡ with_text name text (texts_of old)
  pub rest : new ≡ record (after_load old) { pairs = new.pairs }

-- how many bytes of a name's text a call gives, from a place on, into room for so many
abbrev pub bytes_loaded : KeeperView → List ℕ → ℕ → ℕ → ℕ
bytes_loaded m name at room = min room (length (texts_of m name) - at)

-- `s` has the text `abc`, and the second call is to fail
abbrev small_keeper : KeeperView
small_keeper = record empty_keeper { pairs = (codes "s", codes "abc") ∷ []; plan = listing 2 no_plan }

pub text_there : texts_of small_keeper (codes "s") ≡ codes "abc"
text_there = refl

pub other_empty : texts_of small_keeper (codes "t") ≡ []
other_empty = refl

pub loaded_within : bytes_loaded small_keeper (codes "s") 1 5 ≡ 2
loaded_within = refl

pub second_fails : keeper_faults (after_load (after_load small_keeper)) ≡ 1
second_fails = refl

-- while no call is to fail, no count rises where the plan stays
abbrev pub UnplannedKeepersNeverFail : Type 0
UnplannedKeepersNeverFail =
    (before now : KeeperView) (name : List ℕ) → before.plan.failing ≡ [] → (keeper_state now).plan
    ≡ (keeper_state before).plan
    → ¬ Rose ((keeper_state before).faults name) ((keeper_state now).faults name)
