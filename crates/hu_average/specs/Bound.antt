-- The most that a greater set can earn for each of its items: the sum of the greatest values of the records that hold a set. After
-- Hong, Lee and Wang (2009), who call it the average-utility upper bound.
use Rattle.std.specs.Prelude.{
  ◌≡◌,
  ℕ,
  ℤ,
  pos,
  ◌+ℤ◌,
  ◌*ℤ◌,
  ◌≤ℤ◌,
  List,
  [],
  ◌∷◌,
  length,
  slice_index_or,
  if◌then◌else◌,
}
use Rattle.std.specs.Int.{int_max}
use Rattle.std.specs.List.{AllByRecursion, Contains}
use Rattle.hu_kind.specs.Record.{holds}
use Rattle.hu_kind.specs.Database.{utility}
use Rattle.hu_totals.specs.Ranked.{Ranking}
use Rattle.hu_list.specs.declared.list.Node.{Node}
use Rattle.hu_list.specs.Nodes.{list_of}

-- the greatest value of a record, where it is above 0
abbrev pub greatest : List (ℕ × ℤ) → ℤ
greatest [] = pos 0
greatest (cell ∷ cells) = int_max cell.1 (greatest cells)

-- the sum of that over the records that hold a set
abbrev pub average_bound : List (List (ℕ × ℤ)) → List ℕ → ℤ
average_bound [] set = pos 0
average_bound (cells ∷ records) set =
    (if holds set cells then greatest cells else pos 0) +ℤ average_bound records set

-- no set that holds all items of a set earns more for each of its items than a bound
abbrev pub BoundsAverage : List (List (ℕ × ℤ)) → List ℕ → ℤ → Type 0
BoundsAverage records set bound = (more : List ℕ) → AllByRecursion (Contains more) set
    → utility records more ≤ℤ (bound *ℤ pos (length more))

-- the sum of the greatest values of the records of a list's nodes
abbrev pub greatest_over : List (List (ℕ × ℤ)) → List Node → ℤ
greatest_over records [] = pos 0
greatest_over records (node ∷ nodes) =
    greatest (slice_index_or records node.place []) +ℤ greatest_over records nodes

-- a list is that of some set of ranks
abbrev pub IsSomeList : Ranking → List Node → Type 0
IsSomeList r nodes = (set : List ℕ) × (nodes ≡ list_of r.records set)

-- a bound is that of the set of a list
abbrev pub IsAverageBound : Ranking → List Node → ℤ → Type 0
IsAverageBound r nodes bound = (set : List ℕ) → nodes ≡ list_of r.records set → bound
    ≡ average_bound r.records set

-- and no set that holds all its ranks earns more for each rank
abbrev pub BoundsList : Ranking → List Node → ℤ → Type 0
BoundsList r nodes bound = (set : List ℕ) → nodes ≡ list_of r.records set → BoundsAverage r.records set bound
