-- The sets with one later rank more by which a search grows a set.
use Rattle.std.specs.Prelude.{◌≡◌, ℕ, ◌<◌, ◌≤◌, ◌⊎◌, List, [], ◌∷◌, ◌++◌, map, length, slice_index_or}
use Rattle.std.specs.List.{AllByRecursion}
use Rattle.hu_kind.specs.declared.entry.Entry.{Entry}
use Rattle.hu_kind.specs.Database.{support}
use Rattle.hu_kind.specs.Order.{Ascend}
use Rattle.hu_kind.proofs.lemmas.Members.{Member}
use Rattle.hu_totals.specs.Ranked.{Ranking}
use Rattle.hu_search.specs.Growth.{rank_entry, InTable}
use Rattle.hu_average.specs.declared.children.Child.{Child}
use Rattle.hu_average.specs.declared.totals.RankTotal.{RankTotal}
use Rattle.hu_average.specs.Totals.{total_at, total_of}
use Rattle.hu_average.specs.Best.{BestOf, IsLeftOut, IsAtMost}

-- a rank is later than all of a set, and all are in the table
pub record IsLater (r : Ranking) (set : List ℕ) (rank : ℕ) : Type 0 where
  pub ascending : Ascend (set ++ rank ∷ [])
  pub in_table : InTable r (set ++ rank ∷ [])

-- later ranks, ascending
pub record AreLater (r : Ranking) (set ranks : List ℕ) : Type 0 where
  pub each : AllByRecursion (IsLater r set) ranks
  pub ascending : Ascend ranks

-- totals are those of a set with each of some ranks more
pub record AreTotals (r : Ranking) (set ranks : List ℕ) (totals : List RankTotal) : Type 0 where
  pub len : length totals ≡ length ranks
  pub each : (i : ℕ) → i < length ranks
      → total_at totals i ≡ total_of r.records (set ++ slice_index_or ranks i 0 ∷ [])

-- a child of a set: its rank is later, and its total is right
pub record IsChild (r : Ranking) (set : List ℕ) (child : Child) : Type 0 where
  pub later : IsLater r set child.rank
  pub is : child.total ≡ total_of r.records (set ++ child.rank ∷ [])

-- their ranks
abbrev pub ranks_of : List Child → List ℕ
ranks_of children = map (λ child. child.rank) children

-- children of a set, by rank
pub record AreChildren (r : Ranking) (set : List ℕ) (children : List Child) : Type 0 where
  pub each : AllByRecursion (IsChild r set) children
  pub ascending : Ascend (ranks_of children)

-- the entries of children
abbrev pub entries_of : Ranking → List ℕ → List Child → List Entry
entries_of r set children = map (λ child. rank_entry r (set ++ child.rank ∷ [])) children

-- every set that grows a set and isn't left out grows it by these ranks alone
abbrev pub AreEnough : BestOf → Ranking → List ℕ → List ℕ → Type 0
AreEnough best r set ranks = (more : List ℕ) → Ascend (set ++ more) → 0 < support r.records (set ++ more)
    → AllByRecursion (λ rank. Member rank ranks) more ⊎ IsLeftOut best (rank_entry r (set ++ more))

-- no record holds a child's set, or nothing that holds it gets in
abbrev pub IsShut : BestOf → Child → Type 0
IsShut best child = (child.total.support ≡ 0)
    ⊎ ((e : Entry) → IsAtMost (child.total.bound, 1) e → IsLeftOut best e)

-- the children of a set that some record holds and that aren't left out, out of those with these ranks: where the ranks were
-- enough, theirs are
pub record ArePicked (best : BestOf) (r : Ranking) (set ranks : List ℕ) (picked : List Child) : Type 0 where
  pub children : AreChildren r set picked
  pub some : AllByRecursion (λ child. 0 < child.total.support) picked
  pub few : length picked ≤ length ranks
  pub enough : AreEnough best r set ranks → AreEnough best r set (ranks_of picked)
