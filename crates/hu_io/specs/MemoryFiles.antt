-- Files in memory, of which chosen calls fail.
use Rattle.std.specs.Prelude.{
  ◌≡◌,
  ℕ,
  codes,
  refl,
  ◌∷◌,
  ◌+◌,
  ◌-◌,
  ◌^◌,
  ◌||◌,
  ◌==◌,
  min,
  Bool,
  List,
  [],
  length,
  is_some,
  is_none,
  IsSome,
  Some,
  if◌then◌else◌,
}
use Rattle.hu_io.specs.Count.{one_more, Rose}
use Rattle.hu_io.specs.Files.{content_in, content_or_empty}
use Rattle.hu_io.specs.State.{FilesState}
use Rattle.hu_io.specs.Plan.{PlanView, after_call, listing, next_fails, no_plan}

-- what is seen of a `MemoryFiles`: its files, its plan, the counts of calls that failed by plan and for want of the name,
-- and the most bytes that a call gives
pub record FilesView : Type 0 where
  pub files : List (List ℕ × List ℕ)
  pub plan : PlanView
  pub planned : ℕ
  pub missing : ℕ
  pub most : ℕ

-- no file, no plan, no fault, and no limit below a `usize`
abbrev pub no_files : FilesView
no_files = record { files = []; plan = no_plan; planned = 0; missing = 0; most = 2 ^ 64 - 1 }

-- the calls that failed by plan, 0 while no call is listed
abbrev pub planned_faults : FilesView → ℕ
planned_faults m = if length m.plan.failing == 0 then 0 else m.planned

-- all calls that failed
abbrev pub all_faults : FilesView → ℕ
all_faults m = min (planned_faults m + m.missing) (2 ^ 64 - 1)

-- the count of a name: the planned failures where it is there, else all failures
abbrev pub faults_at : FilesView → List ℕ → ℕ
faults_at m name = if is_some (content_in m.files name) then planned_faults m else all_faults m

-- what the trait sees of it
abbrev pub files_state : FilesView → FilesState
files_state m = record { contents = Some (content_in m.files); faults = faults_at m; plan = m.plan.failing }

-- whether the next call fails: by plan, or for want of the name
abbrev pub get_fails : FilesView → List ℕ → Bool
get_fails m name = next_fails m.plan || is_none (content_in m.files name)

-- how many bytes of a name a call gives, from a place on, into room for so many
abbrev pub bytes_given : FilesView → List ℕ → ℕ → ℕ → ℕ
bytes_given m name at room = min (min m.most room) (length (content_or_empty m.files name) - at)

-- the files after a call: one counter rose where it failed
abbrev pub after_get : FilesView → List ℕ → FilesView
after_get m name =
    if next_fails m.plan then record m { plan = after_call m.plan; planned = one_more m.planned }
    else if is_none (content_in m.files name) then record m {
      plan = after_call m.plan;
      missing =
          one_more m.missing;
    }
    else record m { plan = after_call m.plan }

-- `f` holds `abc`, and the fourth call is to fail
abbrev pub small_files : FilesView
small_files = record no_files { files = (codes "f", codes "abc") ∷ []; plan = listing 4 no_plan }

-- `f` at 1 gives two bytes into room for five, at 3 none
pub given_within : bytes_given small_files (codes "f") 1 5 ≡ 2
given_within = refl

pub given_at_end : bytes_given small_files (codes "f") 3 5 ≡ 0
given_at_end = refl

-- a call of `g` fails after two of `f`, and a fourth call by plan
pub small_faults : all_faults (after_get (after_get (after_get (after_get small_files (codes "f")) (codes "f")) (codes "g")) (codes "f")) ≡ 2
small_faults = refl

-- while no call is to fail, the count of a name that is there doesn't rise where contents and plan stay
abbrev pub NamedFilesNeverFail : Type 0
NamedFilesNeverFail =
    (before now : FilesView) (name : List ℕ) → before.plan.failing ≡ []
    → IsSome (content_in before.files name)
    → (files_state now).plan ≡ (files_state before).plan → (files_state now).contents
    ≡ (files_state before).contents
    → ¬ Rose ((files_state before).faults name) ((files_state now).faults name)
