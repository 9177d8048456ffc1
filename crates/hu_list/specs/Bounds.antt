-- What a list says of its set and of all sets that grow it by later ranks. After HUI-Miner (Liu and Qu, 2012), with values of
-- either sign: a record in which the set and all that may follow it earn less than 0 counts for 0, since a grown set may leave it.
use Rattle.std.specs.Prelude.{◌≡◌, ℕ, ℤ, pos, ◌+ℤ◌, ◌≤ℤ◌, List, [], ◌∷◌, ◌++◌, if◌then◌else◌}
use Rattle.hu_kind.specs.Record.{holds, values_of, positive_part}
use Rattle.hu_kind.specs.Database.{utility}
use Rattle.hu_kind.specs.Order.{Ascend}
use Rattle.hu_list.specs.declared.list.Node.{Node}
use Rattle.hu_list.specs.Nodes.{rest_after, list_of, RanksAscend}

-- the sum of what a set earns at the nodes of its list
abbrev pub own_sum : List Node → ℤ
own_sum [] = pos 0
own_sum (node ∷ nodes) = node.own +ℤ own_sum nodes

-- the most that a set with later ranks can earn at a node
abbrev pub most_at : Node → ℤ
most_at node = positive_part (node.own +ℤ node.rest)

-- the sum of that over the nodes of a list
abbrev pub bound_of : List Node → ℤ
bound_of [] = pos 0
bound_of (node ∷ nodes) = most_at node +ℤ bound_of nodes

-- the same, by the records that hold the set
abbrev pub list_bound : List (List (ℕ × ℤ)) → List ℕ → ℤ
list_bound [] ranks = pos 0
list_bound (cells ∷ records) ranks =
    (if holds ranks cells then positive_part (values_of ranks cells +ℤ rest_after ranks cells) else
    pos 0) +ℤ list_bound records ranks

-- in all records whose ranks ascend, no set whose list this is and that is grown by later ranks earns more than a bound
abbrev pub BoundsGrown : List Node → ℤ → Type 0
BoundsGrown nodes bound = (records : List (List (ℕ × ℤ))) → RanksAscend records
    → (ranks more : List ℕ) → nodes ≡ list_of records ranks
    → Ascend (ranks ++ more) → utility records (ranks ++ more) ≤ℤ bound
