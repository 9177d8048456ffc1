-- Utility lists over records of ranks. The list of a set of ranks has a node for each record that holds the set: the record's
-- place, what the set earns there, and the values above 0 that stand after it. After HUI-Miner (Liu and Qu, 2012).
use Rattle.std.specs.Prelude.{
  ℕ,
  ◌+◌,
  ◌^◌,
  ◌<◌,
  nat_lt,
  ◌==◌,
  ℤ,
  pos,
  ◌+ℤ◌,
  unsigned_abs,
  List,
  [],
  ◌∷◌,
  ◌++◌,
  length,
  if◌then◌else◌,
}
use Rattle.std.specs.List.{All, AllAdjacentBelow, list_all, sum_by}
use Rattle.hu_kind.specs.Record.{holds, values_of, positive_part, absolute_of, gain}
use Rattle.hu_list.specs.declared.list.Node.{Node}

-- the sum of a record's values above 0 at ranks after all those of a set
abbrev pub rest_after : List ℕ → List (ℕ × ℤ) → ℤ
rest_after ranks [] = pos 0
rest_after ranks (cell ∷ cells) =
    (if list_all (λ rank. nat_lt rank cell.0) ranks then positive_part cell.1 else pos 0)
    +ℤ rest_after ranks cells

-- the node of a set in a record at a place
abbrev pub node_of : List ℕ → ℕ → List (ℕ × ℤ) → Node
node_of ranks place cells =
    record { place = place; own = values_of ranks cells; rest = rest_after ranks cells }

-- the nodes of a set in records that stand from a place on
abbrev pub nodes_from : ℕ → List (List (ℕ × ℤ)) → List ℕ → List Node
nodes_from place [] ranks = []
nodes_from place (cells ∷ records) ranks =
    (if holds ranks cells then node_of ranks place cells ∷ [] else [])
    ++ nodes_from (place + 1) records ranks

-- the list of a set
abbrev pub list_of : List (List (ℕ × ℤ)) → List ℕ → List Node
list_of records ranks = nodes_from 0 records ranks

-- the absolute values of a node
abbrev pub weight_of : Node → ℕ
weight_of node = unsigned_abs node.own + unsigned_abs node.rest

-- the ranks of each record ascend
abbrev pub RanksAscend : List (List (ℕ × ℤ)) → Type 0
RanksAscend records = All (λ cells. AllAdjacentBelow (λ a b. a.0 < b.0) cells (length cells)) records

-- the rules of records over ranks on which lists stand: ranks ascend, and the absolute values sum to at most 2 ^ 127 - 1
pub record AreRanked (records : List (List (ℕ × ℤ))) : Type 0 where
  pub ascending : RanksAscend records
  pub sum_fits : sum_by absolute_of records < 2 ^ 127

-- the node of a rank in a record at a place, where it stands there
abbrev pub node_in : ℕ → ℕ → List (ℕ × ℤ) → List Node
node_in place rank [] = []
node_in place rank (cell ∷ cells) =
    if cell.0 == rank then (record { place = place; own = cell.1; rest = gain cells }) ∷ [] else
    node_in place rank cells
