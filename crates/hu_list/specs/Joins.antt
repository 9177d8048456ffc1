-- Two lists joined into that of a set with one rank more.
use Rattle.std.specs.Prelude.{
  ◌≡◌,
  ℕ,
  ◌<◌,
  nat_lt,
  ◌==◌,
  ℤ,
  pos,
  ◌+ℤ◌,
  ◌-ℤ◌,
  Option,
  None,
  Some,
  option_to_list,
  List,
  [],
  ◌∷◌,
  ◌++◌,
  length,
  if◌then◌else◌,
  ◌^◌,
  unsigned_abs,
  ⊤,
}
use Rattle.hu_kind.specs.Order.{Ascend}
use Rattle.hu_list.specs.declared.list.Node.{Node}
use Rattle.hu_list.specs.Nodes.{list_of, AreRanked}

-- the list of a set that is a prefix, where there is none just for the empty set
abbrev pub IsPrefix : Option (List Node) → List (List (ℕ × ℤ)) → List ℕ → Type 0
IsPrefix None records ranks = ranks ≡ []
IsPrefix (Some nodes) records ranks = (0 < length ranks) × (nodes ≡ list_of records ranks)

-- two lists are those of a set with one later rank each, the first one's before the second one's
pub record Joins (prefix : Option (List Node)) (x y : List Node) (records : List (List (ℕ × ℤ)))
    (ranks : List ℕ) (a b : ℕ) : Type 0 where
  pub ranked : AreRanked records
  pub ascending : Ascend (ranks ++ a ∷ b ∷ [])
  pub prefix_is : IsPrefix prefix records ranks
  pub x_is : x ≡ list_of records (ranks ++ a ∷ [])
  pub y_is : y ≡ list_of records (ranks ++ b ∷ [])

-- they are so in some records
abbrev pub CanJoin : Option (List Node) → List Node → List Node → Type 0
CanJoin prefix x y =
    (records : List (List (ℕ × ℤ))) × (ranks : List ℕ) × (a : ℕ) × (b : ℕ)
    × Joins prefix x y records ranks a b

-- the nodes from the first on whose place isn't below a given one
abbrev pub from_place : ℕ → List Node → List Node
from_place place [] = []
from_place place (node ∷ nodes) = if nat_lt node.place place then from_place place nodes else node ∷ nodes

-- what the set of a list earns at its first node, 0 where there is none
abbrev pub first_own : List Node → ℤ
first_own [] = pos 0
first_own (node ∷ nodes) = node.own

-- the node of the joined set at the place of a node of the second list, where the first list goes on at that place
abbrev pub joined_node : List Node → List Node → Node → Option Node
joined_node before [] y = None
joined_node before (x ∷ xs) y =
    if x.place
    == y.place then Some
    (record { place = y.place; own = (x.own -ℤ first_own before) +ℤ y.own; rest = y.rest }) else
    None

-- the list of a prefix and two lists merged by their places
abbrev pub merged : List Node → List Node → List Node → List Node
merged before xs [] = []
merged before xs (y ∷ ys) =
    option_to_list (joined_node (from_place y.place before) (from_place y.place xs) y)
    ++ merged (from_place y.place before) (from_place y.place xs) ys

-- a joined node stays within its type
abbrev pub Fits : List Node → List Node → Node → Type 0
Fits before [] y = ⊤
Fits before (x ∷ xs) y =
    x.place ≡ y.place → (unsigned_abs (x.own -ℤ first_own before) < 2 ^ 127)
    × (unsigned_abs ((x.own -ℤ first_own before) +ℤ y.own) < 2 ^ 127)

-- and so does each node of a merge
abbrev pub AllFit : List Node → List Node → List Node → Type 0
AllFit before xs [] = ⊤
AllFit before xs (y ∷ ys) =
    Fits (from_place y.place before) (from_place y.place xs) y
    × AllFit (from_place y.place before) (from_place y.place xs) ys

-- the nodes of a prefix, none where there is no prefix
abbrev pub nodes_before : Option (List Node) → List Node
nodes_before None = []
nodes_before (Some nodes) = nodes
