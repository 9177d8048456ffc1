-- A level of a search over projected rows: a set of ranks, and rows that stand for it. After EFIM (Zida and others, 2015).
use Rattle.std.specs.Prelude.{◌≡◌, ℕ, ◌<◌, ℤ, ◌≤ℤ◌, List, [], ◌∷◌, ◌++◌, length, slice_index_or}
use Rattle.std.specs.List.{AllByRecursion, Contains, flat_map}
use Rattle.std.specs.List.Sorted.{IsPermutation}
use Rattle.hu_kind.specs.Database.{utility, support}
use Rattle.hu_kind.specs.Order.{Ascend}
use Rattle.hu_totals.specs.Ranked.{Ranking}
use Rattle.hu_collect.specs.State.{State, Reached, floor_in}
use Rattle.hu_rows.specs.declared.tally.Tally.{Tally}
use Rattle.hu_rows.specs.Rows.{RowOf, AreRows, AreCounted, over, count_over}
use Rattle.hu_rows.specs.Tally.{AreBelow, AreNoted, IsClear, tally_at, told, tail_told}
use Rattle.hu_rows.specs.declared.places.Place.{Place}
use Rattle.hu_rows.specs.Handed.{ArePlaces, AreEmpty, handed}
use Rattle.hu_totals.specs.View.{lists_in}
use Rattle.hu_search.specs.Growth.{InTable}
use Rattle.hu_search.specs.declared.child.Child.{Child}
use Rattle.hu_search.specs.Children.{AreEnough, IsOneOf, AreOpen, Fall, IsUpto}
use Rattle.hu_project.specs.Children.{open_if}
use Rattle.hu_project.specs.declared.level.Board.{Board}
use Rattle.hu_project.specs.declared.level.Open.{Open}

-- a rank is later than a set, and in the table
pub record IsLater (r : Ranking) (set : List ℕ) (rank : ℕ) : Type 0 where
  pub ascending : Ascend (set ++ rank ∷ [])
  pub in_table : InTable r (set ++ rank ∷ [])

-- later ranks earn over rows what they and the set earn together, and stand there as often
pub record IsExact (r : Ranking) (set : List ℕ) (rows : List RowOf) (more : List ℕ) : Type 0 where
  pub earned : over rows more ≡ utility r.records (set ++ more)
  pub held : count_over rows more ≡ support r.records (set ++ more)

-- rows stand for a set: they are exact for the ranks that they hold, and these are enough to grow it
pub record IsLevel (s : State) (r : Ranking) (set : List ℕ) (rows : List RowOf) : Type 0 where
  pub taken : List ℕ
  pub later : (rank : ℕ) → Contains taken rank → IsLater r set rank
  pub exact : (first : ℕ) (more : List ℕ) → Ascend (set ++ first ∷ more)
      → AllByRecursion (Contains taken) (first ∷ more) → IsExact r set rows (first ∷ more)
  pub met : (rank : ℕ) → 0 < count_over rows (rank ∷ []) → Contains taken rank
  pub enough : AreEnough s r set taken
  pub rules : AreRows rows
  pub counted : AreCounted rows
  pub below : AreBelow (length r.items) rows

-- rows with the cells of kept ranks alone: they are exact for two or more of these, which are enough to grow a set
pub record IsNarrow (s : State) (r : Ranking) (set kept : List ℕ) (rows : List RowOf) : Type 0 where
  pub later : (rank : ℕ) → Contains kept rank → IsLater r set rank
  pub exact : (first second : ℕ) (more : List ℕ) → Ascend (set ++ first ∷ second ∷ more)
      → AllByRecursion (Contains kept) (first ∷ second ∷ more)
      → IsExact r set rows (first ∷ second ∷ more)
  pub met : (rank : ℕ) → 0 < count_over rows (rank ∷ []) → Contains kept rank
  pub enough : AreEnough s r set kept
  pub rules : AreRows rows
  pub counted : AreCounted rows
  pub below : AreBelow (length r.items) rows

-- tallies say what rows tell, and the ranks that were met are noted
pub record AreTold (rows : List RowOf) (tallies : List Tally) (met : List ℕ) : Type 0 where
  pub told : (rank : ℕ) → tally_at tallies rank ≡ told rows rank
  pub noted : AreNoted tallies met

-- lists of places hand rows to children
pub record AreHanded (rows : List RowOf) (children : List Child) (lists : List (List Place)) : Type 0 where
  pub len : length lists ≡ length children
  pub each : (i : ℕ) (d : Child) → i < length children
      → ArePlaces rows (handed (slice_index_or children i d).rank rows) (slice_index_or lists i [])

-- a board of so many ranks on which nothing stands
pub record IsBoard (n : ℕ) (board : Board) : Type 0 where
  pub tallies : length board.tallies ≡ n
  pub places : length board.places ≡ n
  pub clear : IsClear board.tallies
  pub empty : AreEmpty board.places

-- the children of a set were offered, and what is open of it is what has to be searched
pub record IsPrepared (old new : State) (r : Ranking) (set : List ℕ) (open_part : Open) : Type 0 where
  pub ranks : List ℕ
  pub kept : List ℕ
  pub enough : AreEnough old r set ranks
  pub offers : Reached old (IsOneOf r set ranks) new
  pub opened : AreOpen new r set ranks open_part.children.items
  pub fall : Fall open_part.children.items
  pub narrow : IsNarrow new r set kept open_part.rows
  pub chosen : AllByRecursion (λ child. Contains kept child.rank) open_part.children.items
  pub places : AreHanded open_part.rows open_part.children.items (lists_in open_part.places.items)

-- of kept children those are chosen whose tails may reach a floor, best bound first, with the places of each
pub record IsChoice (given : List RowOf) (kept : List Child) (floor : ℤ) (open_part : Open) : Type 0 where
  pub tails : List Tally
  pub told : (rank : ℕ) → tally_at tails rank ≡ tail_told given rank
  pub rows : open_part.rows ≡ given
  pub same : IsPermutation (flat_map (open_if tails floor) kept) open_part.children.items
  pub fall : Fall open_part.children.items
  pub places : AreHanded given open_part.children.items (lists_in open_part.places.items)

-- a state comes after another: the rule is the same, and the floor is no lower
pub record IsAfter (s t : State) : Type 0 where
  pub rule : t.rule ≡ s.rule
  pub rises : floor_in s ≤ℤ floor_in t

-- the first of what is open was entered
pub record IsSoFar (old now : State) (r : Ranking) (set : List ℕ) (open_part : Open) (at : ℕ) : Type 0 where
  pub mid : State
  pub prepared : IsPrepared old mid r set open_part
  pub after : IsAfter mid now
  pub made : Reached old (IsUpto r set prepared.ranks open_part.children.items at) now
