-- What a search over tails knows of a set and of its children.
use Rattle.std.specs.Prelude.{
  ◌≡◌,
  ℕ,
  true,
  nat_eq,
  ◌⊎◌,
  ◌≤ℤ◌,
  ◌<ℤ◌,
  ℤ,
  Option,
  None,
  Some,
  List,
  [],
  ◌∷◌,
  ◌++◌,
  ◌<◌,
  slice_index_or,
  length,
}
use Rattle.std.specs.List.{AllByRecursion, Contains, IsDistinct}
use Rattle.hu_kind.specs.Database.{utility, support}
use Rattle.hu_kind.specs.Order.{Ascend}
use Rattle.hu_kind.specs.Record.{items_in}
use Rattle.hu_totals.specs.Ranked.{Ranking}
use Rattle.hu_collect.specs.State.{State}
use Rattle.hu_search.specs.declared.child.Child.{Child}
use Rattle.hu_search.specs.Children.{AreChildren, AreEnough, Fall, ranks_of}
use Rattle.hu_list.specs.declared.sums.Sum.{Sum}
use Rattle.hu_totals.specs.Cells.{among}
use Rattle.hu_list.specs.Tails.{TailOf, earned, held}
use Rattle.hu_list.specs.View.{AreTails}

-- tails are what a set leaves: their ranks are later, and they say of every set that grows it what it earns and how many
-- records hold it
pub record IsLeft (r : Ranking) (set : List ℕ) (tails : List TailOf) : Type 0 where
  pub rules : AreTails (length r.items) tails
  pub later : AllByRecursion (λ tail. Ascend (set ++ items_in tail.cells)) tails
  pub utility : (first : ℕ) (more : List ℕ) → Ascend (set ++ first ∷ more)
      → utility r.records (set ++ first ∷ more) ≡ earned tails (first ∷ more)
  pub support : (first : ℕ) (more : List ℕ) → Ascend (set ++ first ∷ more)
      → support r.records (set ++ first ∷ more) ≡ held tails (first ∷ more)

-- no set that holds a last rank and another earns a floor, in all records for which this is right
abbrev pub IsRefused : (List (List (ℕ × ℤ)) → Type 0) → ℤ → Option ℕ → ℕ → Type 0
IsRefused Right floor None rank = ⊥
IsRefused Right floor (Some last) rank = (records : List (List (ℕ × ℤ))) → Right records
    → (set : List ℕ) → Ascend set → Contains set last → Contains set rank
    → utility records set <ℤ floor

-- no set that grows a set by a child's rank and then by later ones of these earns more than the child's bound
abbrev pub IsMost : Ranking → List ℕ → List ℕ → Child → Type 0
IsMost r set ranks child = (more : List ℕ) → Ascend (set ++ child.rank ∷ more)
    → AllByRecursion (Contains ranks) more
    → utility r.records (set ++ child.rank ∷ more) ≤ℤ child.bound

-- the children of a set that a search offers and may enter: no other set counts that grows it
pub record IsLevel (s : State) (r : Ranking) (set : List ℕ) (children : List Child) : Type 0 where
  pub right : AreChildren r set children
  pub enough : AreEnough s r set (ranks_of children)
  pub most : AllByRecursion (IsMost r set (ranks_of children)) children
  pub once : IsDistinct nat_eq (ranks_of children)

-- the sums of a child
abbrev pub sum_of : Child → Sum
sum_of child = record { support = child.support; utility = child.utility; bound = child.bound }

-- of ranks with gains those that are kept: they reach a floor, and each other one doesn't or is refused
pub record AreKept (Right : List (List (ℕ × ℤ)) → Type 0) (gate floor : ℤ) (last : Option ℕ)
    (gain : ℕ → ℤ) (ranks kept : List ℕ) : Type 0 where
  pub sound : (z : ℕ) → among z kept ≡ true → floor ≤ℤ gain z
  pub whole : (z : ℕ) → among z ranks ≡ true → (among z kept ≡ true) ⊎
      ((gain z <ℤ floor) ⊎ IsRefused Right gate last z)

-- of children those whose bound reaches a floor, best bound first
pub record AreChosen (floor : ℤ) (children chosen : List Child) : Type 0 where
  pub fall : Fall chosen
  pub from : AllByRecursion (Contains children) chosen
  pub whole : (child : Child) → Contains children child → Contains chosen child ⊎ (child.bound <ℤ floor)
  pub once : IsDistinct nat_eq (ranks_of chosen)

-- lists that go along with children are the tails of their sets, where cells are left
abbrev pub AreGrown : Ranking → List ℕ → List Child → List (List TailOf) → Type 0
AreGrown r set chosen lists = (i : ℕ) → i < length chosen
    → IsLeft r (set ++ slice_index_or (ranks_of chosen) i 0 ∷ []) (slice_index_or lists i [])
