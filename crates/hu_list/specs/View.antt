-- A search's tails are seen without lives: each as what its set earned and its cells as pairs (rank, value).
use Rattle.std.specs.Prelude.{ℕ, ◌<◌, ◌^◌, List, map}
use Rattle.std.specs.List.{AllByRecursion, sum_by}
use Rattle.std.specs.declared.vec.Vec.{Vec}
use Rattle.std.specs.declared.alloc.Global.{Global}
use Rattle.hu_kind.specs.Order.{Ascend}
use Rattle.hu_kind.specs.Record.{items_in}
use Rattle.hu_totals.specs.View.{cells_of}
use Rattle.hu_list.specs.declared.tail.Tail.{Tail}
use Rattle.hu_list.specs.Tails.{TailOf, size_of}

-- a tail without lives
abbrev pub tail_of : Tail → TailOf
tail_of tail = record { own = tail.own; cells = cells_of tail.cells.now }

-- tails without lives
abbrev pub tails_of : List Tail → List TailOf
tails_of tails = map tail_of tails

-- lists of them
abbrev pub lists_of : List (Vec Tail Global) → List (List TailOf)
lists_of lists = map (λ list. tails_of list.items) lists

-- the rules of a tail over ranks below a number: they ascend
pub record IsTail (room : ℕ) (tail : TailOf) : Type 0 where
  pub ascending : Ascend (items_in tail.cells)
  pub in_range : AllByRecursion (λ rank. rank < room) (items_in tail.cells)

-- the rules of tails: the absolute values of all sum to less than 2 ^ 127
pub record AreTails (room : ℕ) (tails : List TailOf) : Type 0 where
  pub each : AllByRecursion (IsTail room) tails
  pub sizes : sum_by size_of tails < 2 ^ 127
