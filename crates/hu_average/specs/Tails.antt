-- Tails: what a set of ranks leaves of the records that hold it, in the place of its utility list. A search walks on in them to
-- find the sets that grow it. After HUI-Miner (Liu and Qu, 2012), whose lists say the same, and d2HUP (Liu, Wang and Fung, 2012),
-- which walks on in the records; the greatest value of each record after Hong, Lee and Wang (2009).
use Rattle.std.specs.Prelude.{
  ◌≡◌,
  ℕ,
  ◌+◌,
  ◌^◌,
  ◌<◌,
  ◌==◌,
  max,
  ℤ,
  pos,
  ◌+ℤ◌,
  unsigned_abs,
  List,
  [],
  ◌∷◌,
  ◌++◌,
  map,
  length,
  slice_index_or,
  if◌then◌else◌,
}
use Rattle.std.specs.List.{AllByRecursion, sum_by}
use Rattle.std.specs.declared.vec.Vec.{Vec}
use Rattle.std.specs.declared.alloc.Global.{Global}
use Rattle.hu_kind.specs.Record.{holds, values_of, items_in, absolute_of}
use Rattle.hu_kind.specs.Order.{Ascend}
use Rattle.hu_totals.specs.Ranked.{Ranking}
use Rattle.hu_totals.specs.View.{cells_of}
use Rattle.hu_average.specs.declared.tail.Tail.{Tail}
use Rattle.hu_average.specs.declared.totals.RankTotal.{RankTotal}
use Rattle.hu_average.specs.Bound.{greatest}
use Rattle.hu_average.specs.Totals.{total_with, no_total, plus, total_at, total_of}

-- what a set earns in a record that holds it, the record's greatest value, and the record's cells after the set's last rank
pub record TailOf : Type 0 where
  pub own : ℤ
  pub most : ℤ
  pub cells : List (ℕ × ℤ)

-- a record as a tail of the empty set
abbrev pub tail_from : List (ℕ × ℤ) → TailOf
tail_from cells = record { own = pos 0; most = greatest cells; cells = cells }

-- what a tail says of the set with further ranks
abbrev pub share_of : List ℕ → TailOf → RankTotal
share_of more tail =
    if holds more tail.cells then total_with (tail.own +ℤ values_of more tail.cells) 1 tail.most else
    no_total

-- what all tails say of it
abbrev pub sums : List TailOf → List ℕ → RankTotal
sums [] more = no_total
sums (tail ∷ tails) more = plus (share_of more tail) (sums tails more)

-- what tails say of their set
abbrev pub total_in : List TailOf → RankTotal
total_in [] = no_total
total_in (tail ∷ tails) = plus (total_with tail.own 1 tail.most) (total_in tails)

-- the tail that cells of a tail leave to the set with a rank more, where they hold it
abbrev pub left_from : ℕ → ℤ → ℤ → List (ℕ × ℤ) → List TailOf
left_from z own most [] = []
left_from z own most (cell ∷ cells) =
    if z == cell.0 then (record { own = own +ℤ cell.1; most = most; cells = cells }) ∷ [] else
    left_from z own most cells

-- the same of all its cells
abbrev pub left_in : ℕ → TailOf → List TailOf
left_in z tail = left_from z tail.own tail.most tail.cells

-- the tails of the set with a rank more
abbrev pub grown : ℕ → List TailOf → List TailOf
grown z [] = []
grown z (tail ∷ tails) = left_in z tail ++ grown z tails

-- the absolute values of a tail
abbrev pub size_of : TailOf → ℕ
size_of tail = max (unsigned_abs tail.own + absolute_of tail.cells) (unsigned_abs tail.most)

-- ---- without lives

-- a tail without lives
abbrev pub tail_of : Tail → TailOf
tail_of tail = record { own = tail.own; most = tail.most; cells = cells_of tail.cells.now }

-- tails without lives
abbrev pub tails_of : List Tail → List TailOf
tails_of tails = map tail_of tails

-- one of some lists of them
abbrev pub tails_at : List (Vec Tail Global) → ℕ → List TailOf
tails_at lists i = slice_index_or (map (λ list. tails_of list.items) lists) i []

-- ---- their rules

-- the rules of a tail over ranks below a number: they ascend
pub record IsTail (room : ℕ) (tail : TailOf) : Type 0 where
  pub ascending : Ascend (items_in tail.cells)
  pub in_range : AllByRecursion (λ rank. rank < room) (items_in tail.cells)

-- the rules of tails: the absolute values of all sum to less than 2 ^ 127
pub record AreTails (room : ℕ) (tails : List TailOf) : Type 0 where
  pub each : AllByRecursion (IsTail room) tails
  pub sizes : sum_by size_of tails < 2 ^ 127

-- tails are what a set leaves: they say of every set that grows it what the records say
pub record IsLeft (r : Ranking) (set : List ℕ) (tails : List TailOf) : Type 0 where
  pub rules : AreTails (length r.items) tails
  pub totals : (first : ℕ) (more : List ℕ) → Ascend (set ++ first ∷ more)
      → total_of r.records (set ++ first ∷ more) ≡ sums tails (first ∷ more)

-- ---- along with ranks

-- totals are those of ranks over tails
pub record AreSums (ranks : List ℕ) (tails : List TailOf) (totals : List RankTotal) : Type 0 where
  pub len : length totals ≡ length ranks
  pub each : (i : ℕ) → i < length ranks
      → total_at totals i ≡ total_in (grown (slice_index_or ranks i 0) tails)
