-- A setting of bins: the kept ranks, and a value for each rank.
use Rattle.std.specs.Prelude.{
  ◌≡◌,
  ℕ,
  ◌<◌,
  Bool,
  false,
  ◌&&◌,
  ℤ,
  pos,
  List,
  length,
  slice_index_or,
  if◌then◌else◌,
}
use Rattle.std.specs.List.{AllByRecursion}
use Rattle.hu_kind.specs.Record.{has, positive_part}
use Rattle.hu_totals.specs.Cells.{among}
use Rattle.hu_rows.specs.Rows.{RowOf}
use Rattle.hu_rows.specs.Bounds.{BinsOf, value_at, local_share, subtree_share}

-- a setting: the ranks that were kept, and the values
pub record SettingOf : Type 0 where
  pub kept : List ℕ
  pub values : List ℤ

-- two settings as bins
abbrev pub bins_of : SettingOf → SettingOf → BinsOf
bins_of local subtree = record { ranks = length local.values; local = local.values; subtree = subtree.values }

-- the rules of a setting: a mark for each rank says whether it is kept, and no other has a value but 0
pub record IsSetting (kept : List ℕ) (values : List ℤ) (flags : List Bool) : Type 0 where
  pub below : AllByRecursion (λ rank. rank < length values) kept
  pub marked : length flags ≡ length values
  pub marks : (rank : ℕ) → slice_index_or flags rank false ≡ among rank kept
  pub zero : (rank : ℕ) → among rank kept ≡ false → value_at values rank ≡ pos 0

-- the value of a cell where its rank is kept and it is above 0, else 0
abbrev pub kept_part : List ℕ → ℕ × ℤ → ℤ
kept_part kept cell = if among cell.0 kept then positive_part cell.1 else pos 0

-- what a row adds to the local bound of a rank
abbrev pub local_part : List ℕ → RowOf → ℕ → ℤ
local_part kept row rank = if among rank kept && has rank row.cells then local_share kept row else pos 0

-- what a row adds to the subtree bound of a rank
abbrev pub subtree_part : List ℕ → RowOf → ℕ → ℤ
subtree_part kept row rank =
    if among rank kept && has rank row.cells then subtree_share kept rank row else pos 0
