-- Which pairs of ranks may join by a floor: those whose records gain at least the floor. No set that holds another pair
-- earns the floor. After FHM (Fournier-Viger, Wu, Zida and Tseng, 2014).
use Rattle.std.specs.Prelude.{
  ◌≡◌,
  ◌↔◌,
  ℕ,
  ◌+◌,
  ◌-◌,
  ◌<◌,
  ◌==◌,
  Bool,
  false,
  ℤ,
  ◌<ℤ◌,
  int_le,
  List,
  [],
  map,
  slice_index_or,
}
use Rattle.std.specs.List.{filter, list_any, range_with_len}
use Rattle.hu_collect.specs.Pairs.{pair_twu}

-- the ranks above a rank and below a number whose records with it gain at least the floor, ascending
abbrev pub partners : List (List (ℕ × ℤ)) → ℤ → ℕ → ℕ → List ℕ
partners records floor n rank =
    filter (λ later. int_le floor (pair_twu records rank later)) (range_with_len (rank + 1) (n - (rank + 1)))

-- a floor, and for each rank the later ranks that it may join
pub record PairTable : Type 0 where
  pub floor : ℤ
  pub partners : List (List ℕ)

-- the pairs of ranks below a number that may join by a floor
abbrev pub pair_table : List (List (ℕ × ℤ)) → ℤ → ℕ → PairTable
pair_table records floor n =
    record { floor = floor; partners = map (partners records floor n) (range_with_len 0 n) }

-- whether a later rank is among those that a rank may join
abbrev pub joins : PairTable → ℕ → ℕ → Bool
joins table a b = list_any (λ later. later == b) (slice_index_or table.partners a [])

-- the records of every refused pair gain less than the floor
abbrev pub RefusesLow : PairTable → List (List (ℕ × ℤ)) → Type 0
RefusesLow table records = (a b : ℕ) → a < b → joins table a b ≡ false → pair_twu records a b <ℤ table.floor

-- the refused pairs are just those whose records gain less than the floor
abbrev pub RefusesJustLow : List (List (ℕ × ℤ)) → PairTable → Type 0
RefusesJustLow records table = (a b : ℕ) → a < b
    → (joins table a b ≡ false) ↔ (pair_twu records a b <ℤ table.floor)
