-- Records over ranks.
use Rattle.std.specs.Prelude.{ℕ, ◌^◌, ◌<◌, ℤ, List}
use Rattle.std.specs.List.{AllByRecursion, sum_by}
use Rattle.hu_kind.specs.Order.{Ascend}
use Rattle.hu_kind.specs.Record.{items_in, absolute_of}

-- a record over ranks below a number: they ascend
pub record IsOverRanks (n : ℕ) (cells : List (ℕ × ℤ)) : Type 0 where
  pub ascending : Ascend (items_in cells)
  pub in_range : AllByRecursion (λ rank. rank < n) (items_in cells)

-- records over ranks below a number, whose absolute values sum to at most 2 ^ 127 - 1
pub record AreOverRanks (n : ℕ) (records : List (List (ℕ × ℤ))) : Type 0 where
  pub each : AllByRecursion (IsOverRanks n) records
  pub sum_fits : sum_by absolute_of records < 2 ^ 127
