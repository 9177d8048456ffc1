-- What the records of a pair gain bounds what sets that hold the pair earn.
use Rattle.std.specs.Prelude.{ℕ, ℤ, ◌≤ℤ◌, List}
use Rattle.std.specs.List.{Contains}
use Rattle.hu_kind.specs.Order.{Ascend}
use Rattle.hu_kind.specs.Database.{utility}
use Rattle.hu_collect.specs.Pairs.{pair_twu}

-- an ascending set earns no more than the records that hold two of its ranks gain
abbrev pub BoundsSets : Type 0
BoundsSets = (records : List (List (ℕ × ℤ))) (a b : ℕ) (ranks : List ℕ) → Ascend ranks
    → Contains ranks a → Contains ranks b → utility records ranks ≤ℤ pair_twu records a b
