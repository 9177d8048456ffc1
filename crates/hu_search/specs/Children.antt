-- The children of a set of ranks, which have one later rank more, and what is left to search of them.
use Rattle.std.specs.Prelude.{◌≡◌, ℕ, ◌<◌, true, ℤ, ◌≤ℤ◌, ◌⊎◌, List, [], ◌∷◌, ◌++◌, map, take}
use Rattle.std.specs.List.{Contains, AllByRecursion}
use Rattle.hu_kind.specs.declared.entry.Entry.{Entry}
use Rattle.hu_kind.specs.Database.{utility, support}
use Rattle.hu_kind.specs.Order.{Ascend, FallBy}
use Rattle.hu_totals.specs.Ranked.{Ranking}
use Rattle.hu_collect.specs.Rule.{passes}
use Rattle.hu_collect.specs.State.{State, floor_in}
use Rattle.hu_search.specs.declared.child.Child.{Child}
use Rattle.hu_search.specs.Growth.{rank_entry, Grows, InTable}

-- a child of a set: its rank is later and in the table, it occurs, and its utility and support are right
pub record IsChild (r : Ranking) (set : List ℕ) (child : Child) : Type 0 where
  pub ascending : Ascend (set ++ child.rank ∷ [])
  pub in_table : InTable r (set ++ child.rank ∷ [])
  pub occurs : 0 < support r.records (set ++ child.rank ∷ [])
  pub utility : child.utility ≡ utility r.records (set ++ child.rank ∷ [])
  pub support : child.support ≡ support r.records (set ++ child.rank ∷ [])

-- children of a set
abbrev pub AreChildren : Ranking → List ℕ → List Child → Type 0
AreChildren r set children = AllByRecursion (IsChild r set) children

-- their ranks
abbrev pub ranks_of : List Child → List ℕ
ranks_of children = map (λ child. child.rank) children

-- the entry is that of a set with one of these ranks more, which occurs
pub record IsOneOf (r : Ranking) (set ranks : List ℕ) (entry : Entry) : Type 0 where
  pub rank : ℕ
  pub among : Contains ranks rank
  pub ascending : Ascend (set ++ rank ∷ [])
  pub occurs : 0 < support r.records (set ++ rank ∷ [])
  pub is : entry ≡ rank_entry r (set ++ rank ∷ [])

-- the entry is that of a set that grows a set by one of these ranks and then by later ones
pub record IsBelow (r : Ranking) (set ranks : List ℕ) (entry : Entry) : Type 0 where
  pub rank : ℕ
  pub among : Contains ranks rank
  pub grows : Grows r (set ++ rank ∷ []) entry

-- an entry counts: it passes, and it reaches the floor
pub record Counts (s : State) (entry : Entry) : Type 0 where
  pub pass : passes s.rule entry ≡ true
  pub high : floor_in s ≤ℤ entry.utility

-- every set that counts and grows a set grows it by these ranks alone
abbrev pub AreEnough : State → Ranking → List ℕ → List ℕ → Type 0
AreEnough s r set ranks = (more : List ℕ) → Ascend (set ++ more)
    → 0 < support r.records (set ++ more) → Counts s (rank_entry r (set ++ more))
    → AllByRecursion (Contains ranks) more

-- no set counts that grows a set
abbrev pub IsBarren : State → Ranking → List ℕ → Type 0
IsBarren s r set = (entry : Entry) → Grows r set entry → Counts s entry → ⊥

-- no set that counts and grows a set earns more than a bound
abbrev pub IsBound : State → Ranking → List ℕ → ℤ → Type 0
IsBound s r set bound = (entry : Entry) → Grows r set entry → Counts s entry → entry.utility ≤ℤ bound

-- of the ranks of children those to be entered: each other one leads to nothing that counts, and the bounds hold
pub record AreOpen (s : State) (r : Ranking) (set ranks : List ℕ) (chosen : List Child) : Type 0 where
  pub others : (rank : ℕ) → Contains ranks rank
      → Contains (ranks_of chosen) rank ⊎ IsBarren s r (set ++ rank ∷ [])
  pub bounds : AllByRecursion (λ child. IsBound s r (set ++ child.rank ∷ []) child.bound) chosen

-- bounds that fall
abbrev pub Fall : List Child → Type 0
Fall children = FallBy (λ child. child.bound) children

-- all children were offered, and the first of those to be entered were entered
abbrev pub IsUpto : Ranking → List ℕ → List ℕ → List Child → ℕ → Entry → Type 0
IsUpto r set ranks chosen count entry =
    IsOneOf r set ranks entry ⊎ IsBelow r set (ranks_of (take count chosen)) entry
