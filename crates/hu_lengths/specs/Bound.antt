-- The most that a set of ranks with so many later ranks can earn. After FHM+ (Fournier-Viger, Lin, Duong and Dam, 2016), with
-- values of either sign.
use Rattle.std.specs.Prelude.{
  ◌≡◌,
  ℕ,
  nat_lt,
  ◌≤◌,
  ℤ,
  pos,
  int_lt,
  ◌+ℤ◌,
  ◌≤ℤ◌,
  ◌&&◌,
  List,
  [],
  ◌∷◌,
  ◌++◌,
  take,
  length,
  slice_index_or,
  ◌<◌,
  if◌then◌else◌,
}
use Rattle.std.specs.List.{list_all}
use Rattle.hu_kind.specs.Record.{holds, values_of, positive_part, items_in}
use Rattle.hu_kind.specs.Database.{utility}
use Rattle.hu_kind.specs.Order.{Ascend}
use Rattle.hu_totals.specs.Ranked.{Ranking}
use Rattle.hu_list.specs.declared.list.Node.{Node}
use Rattle.hu_list.specs.Nodes.{list_of}
use Rattle.hu_search.specs.Growth.{InTable}

-- the values above 0 in a record at ranks after all those of a set
abbrev pub later_values : List ℕ → List (ℕ × ℤ) → List ℤ
later_values set [] = []
later_values set (cell ∷ cells) =
    (if list_all (λ rank. nat_lt rank cell.0) set && int_lt (pos 0) cell.1 then cell.1 ∷ [] else [])
    ++ later_values set cells

-- the same at ranks after one
abbrev pub values_after : ℕ → List (ℕ × ℤ) → List ℤ
values_after last [] = []
values_after last (cell ∷ cells) =
    (if nat_lt last cell.0 && int_lt (pos 0) cell.1 then cell.1 ∷ [] else [])
    ++ values_after last cells

-- a value put into falling ones
abbrev pub put : ℤ → List ℤ → List ℤ
put value [] = value ∷ []
put value (other ∷ others) = if int_lt other value then value ∷ other ∷ others else other ∷ put value others

-- values, the greatest first
abbrev pub falling : List ℤ → List ℤ
falling [] = []
falling (value ∷ values) = put value (falling values)

-- the sum of values
abbrev pub sum_of : List ℤ → ℤ
sum_of [] = pos 0
sum_of (value ∷ values) = value +ℤ sum_of values

-- what a set and the greatest values after it come to in a record, so many of them, where that is above 0
abbrev pub sized_most : List ℕ → ℕ → List (ℕ × ℤ) → ℤ
sized_most set room cells =
    positive_part (values_of set cells +ℤ sum_of (take room (falling (later_values set cells))))

-- the sum of that over the records that hold the set
abbrev pub sized_bound : List (List (ℕ × ℤ)) → List ℕ → ℕ → ℤ
sized_bound [] set room = pos 0
sized_bound (cells ∷ records) set room =
    (if holds set cells then sized_most set room cells else pos 0) +ℤ sized_bound records set room

-- the same at a node of a list, by the place of its record and the set's last rank
abbrev pub most_at : List (List (ℕ × ℤ)) → ℕ → ℕ → Node → ℤ
most_at records last room node =
    positive_part
    (node.own
    +ℤ sum_of (take room (falling (values_after last (slice_index_or records node.place [])))))

-- the sum of that over nodes
abbrev pub most_of : List (List (ℕ × ℤ)) → ℕ → ℕ → List Node → ℤ
most_of records last room [] = pos 0
most_of records last room (node ∷ nodes) = most_at records last room node +ℤ most_of records last room nodes

-- a node is of a record with ascending ranks, and its rest is the sum of the values there after a last rank
pub record IsNodeAt (records : List (List (ℕ × ℤ))) (last : ℕ) (node : Node) : Type 0 where
  pub within : node.place < length records
  pub ascending : Ascend (items_in (slice_index_or records node.place []))
  pub rest : node.rest ≡ sum_of (values_after last (slice_index_or records node.place []))

-- a list is that of a set of ranks with a last one
pub record IsListOf (r : Ranking) (nodes : List Node) (last : ℕ) (set : List ℕ) : Type 0 where
  pub before : List ℕ
  pub ends : set ≡ before ++ last ∷ []
  pub ascending : Ascend set
  pub in_table : InTable r set
  pub is : nodes ≡ list_of r.records set

-- a list is that of some set of ranks with a last one
abbrev pub IsList : Ranking → List Node → ℕ → Type 0
IsList r nodes last = (set : List ℕ) × IsListOf r nodes last set

-- the bound of a list's set
abbrev pub IsSizedBound : Ranking → List Node → ℕ → ℕ → ℤ → Type 0
IsSizedBound r nodes last room bound = (set : List ℕ) → IsListOf r nodes last set → bound
    ≡ sized_bound r.records set room

-- no set earns more than a bound that is a list's set with at most so many later ranks
abbrev pub BoundsSized : Ranking → List Node → ℕ → ℕ → ℤ → Type 0
BoundsSized r nodes last room bound = (set more : List ℕ) → IsListOf r nodes last set
    → Ascend (set ++ more) → length more ≤ room
    → utility r.records (set ++ more) ≤ℤ bound
