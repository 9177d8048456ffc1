-- The prefixes that wait for their lines, as the walk keeps them: the last of them comes next.
use Rattle.std.specs.Prelude.{
  ◌≡◌,
  ⊤,
  ℕ,
  ℤ,
  ◌≤◌,
  pos,
  Option,
  None,
  Some,
  is_none,
  List,
  [],
  ◌∷◌,
  ◌++◌,
  map,
  take,
  drop,
  length,
  reverse,
}
use Rattle.std.specs.List.{filter}
use Rattle.std.specs.Ordering.{nat_cmp}
use Rattle.hu_kind.specs.declared.entry.Entry.{Entry}
use Rattle.hu_kind.specs.Order.{ranking}
use Rattle.hu_proof.specs.declared.line.Opened.{Opened}
use Rattle.hu_proof.specs.declared.token.Token.{Token}
use Rattle.hu_proof.specs.declared.walk.Waiting.{Waiting}
use Rattle.hu_proof.specs.Bounds.{after}
use Rattle.hu_proof.specs.Check.{Node}
use Rattle.hu_proof.specs.Judged.{node_at}
use Rattle.hu_proof.specs.Places.{PlaceOf, places_of, held, narrowed, earned, Apart}

-- a waiting prefix: how many items it shares with the path, its last item, how many items of the order stand before its
-- later ones, and its places
pub record WaitingOf : Type 0 where
  pub depth : ℕ
  pub item : ℕ
  pub from : ℕ
  pub places : List PlaceOf

abbrev pub waiting_of : Waiting → WaitingOf
waiting_of one =
    record {
      depth = one.depth;
      item = one.item.0;
      from = one.node.from;
      places =
          places_of one.node.places.items;
    }

-- those that wait, the next one first
abbrev pub stack_of : List Waiting → List WaitingOf
stack_of waiting = map waiting_of (reverse waiting)

-- the prefix of one that waits, by a path
abbrev pub prefix_at : List ℕ → WaitingOf → List ℕ
prefix_at path one = take one.depth path ++ one.item ∷ []

-- their nodes: a deeper one shares its path with the one before
abbrev pub nodes_of : List ℕ → List ℕ → List WaitingOf → List Node
nodes_of order path [] = []
nodes_of order path (one ∷ stack) =
    record { prefix = prefix_at path one; later = drop one.from order } ∷ nodes_of order
    (take one.depth path) stack

-- the places are those of a prefix, and no item of it and of its later ones stands twice
pub record IsNode (records : List (List (ℕ × ℤ))) (order prefix : List ℕ) (from : ℕ)
    (places : List PlaceOf) : Type 0 where
  pub holds : places ≡ held records prefix
  pub apart : Apart (prefix ++ drop from order)

abbrev pub Fits : List (List (ℕ × ℤ)) → List ℕ → List ℕ → List WaitingOf → Type 0
Fits records order path [] = ⊤
Fits records order path (one ∷ stack) =
    (one.depth ≤ length path) × IsNode records order (prefix_at path one) one.from one.places
    × Fits records order (take one.depth path) stack

-- the next prefix: it leaves the stack, and is the path
pub record Steps (path : List ℕ) (stack : List WaitingOf) (path' : List ℕ) (stack' : List WaitingOf)
    (from : ℕ) (places : List PlaceOf) : Type 0 where
  pub one : WaitingOf
  pub is : stack ≡ one ∷ stack'
  pub leads : path' ≡ prefix_at path one
  pub starts : one.from ≡ from
  pub holds : one.places ≡ places

-- a waiting child of a prefix
pub record IsChild (order : List ℕ) (depth from : ℕ) (places : List PlaceOf) (item : ℕ)
    (child : WaitingOf) : Type 0 where
  pub at_depth : child.depth ≡ depth
  pub of_item : child.item ≡ item
  pub later : drop child.from order ≡ after item (drop from order)
  pub narrow : child.places ≡ narrowed item places

-- the children of a prefix that are opened wait in front
abbrev pub AreChildren : List ℕ → ℕ → ℕ → List PlaceOf → List ℕ → List WaitingOf → Type 0
AreChildren order depth from places [] [] = ⊤
AreChildren order depth from places (item ∷ items) (child ∷ children) =
    IsChild order depth from places item child × AreChildren order depth from places items children
AreChildren order depth from places _ _ = ⊥

-- the items of tokens without a bound
abbrev pub open_items : List Token → List ℕ
open_items tokens = map (λ token. token.item.0) (filter (λ token. is_none token.bound) tokens)

abbrev pub PushesChildren : List ℕ → ℕ → ℕ → List PlaceOf → List Token → List WaitingOf
    → List WaitingOf → Type 0
PushesChildren order depth from places tokens stack stack' =
    (children : List WaitingOf) × AreChildren order depth from places (open_items tokens)
    children × (stack' ≡ children ++ stack)

-- the nodes that are to be opened, that of the path first where there is one
abbrev pub nodes_now : List ℕ → List ℕ → List WaitingOf → Option Opened → List Node
nodes_now order path stack None = nodes_of order path stack
nodes_now order path stack (Some node) = node_at order path node.from ∷ nodes_of order path stack

-- the path is that of a prefix whose line comes next, or none waits
abbrev pub Stands : List (List (ℕ × ℤ)) → List ℕ → List ℕ → List WaitingOf → Option Opened → Type 0
Stands records order path stack None = stack ≡ []
Stands records order path stack (Some node) =
    IsNode records order path node.from (places_of node.places.items)
    × Fits records order path stack

-- the entry of the path, by its places
abbrev pub entry_at : List ℕ → List PlaceOf → Entry
entry_at path places =
    record {
      key = map pos (ranking nat_cmp path);
      utility = earned places;
      support =
          length places;
    }
