-- What rows say of each rank that they hold: what it earns over them, how many records hold it, and a bound.
-- After EFIM (Zida and others, 2015), with the positive part taken for each row.
use Rattle.std.specs.Prelude.{
  ◌≡◌,
  ℕ,
  ◌+◌,
  ◌^◌,
  ◌<◌,
  ◌⊎◌,
  Bool,
  ℤ,
  pos,
  ◌+ℤ◌,
  unsigned_abs,
  List,
  [],
  ◌∷◌,
  length,
  slice_index_or,
  if◌then◌else◌,
}
use Rattle.std.specs.List.{AllByRecursion, Contains}
use Rattle.hu_kind.specs.Record.{has, value_of, gain, positive_part}
use Rattle.hu_rows.specs.declared.tally.Tally.{Tally}
use Rattle.hu_rows.specs.Rows.{RowOf, over, count_over, ranks_of, size_of}
use Rattle.hu_totals.specs.Cells.{after}

-- a tally of these numbers
abbrev pub tally_with : ℤ → ℕ → ℤ → Tally
tally_with utility count bound = record { utility = utility; count = count; bound = bound }

-- the tally of a rank that no row holds
abbrev pub no_tally : Tally
no_tally = tally_with (pos 0) 0 (pos 0)

-- the sums of two tallies
abbrev pub plus : Tally → Tally → Tally
plus a b = tally_with (a.utility +ℤ b.utility) (a.count + b.count) (a.bound +ℤ b.bound)

-- the tally of a rank
abbrev pub tally_at : List Tally → ℕ → Tally
tally_at tallies rank = slice_index_or tallies rank no_tally

-- nothing was told of any rank
abbrev pub IsClear : List Tally → Type 0
IsClear tallies = (rank : ℕ) → tally_at tallies rank ≡ no_tally

-- each rank's tally has grown by its share
abbrev pub Adds : (ℕ → Tally) → List Tally → List Tally → Type 0
Adds share old new = (rank : ℕ) → tally_at new rank ≡ plus (tally_at old rank) (share rank)

-- a share where it applies, else nothing
abbrev pub share_if : Bool → Tally → Tally
share_if applies share = if applies then share else no_tally

-- the most that a row gives a set of its ranks
abbrev pub most : RowOf → ℤ
most row = positive_part (row.before +ℤ gain row.cells)

-- what a row tells of a rank that it holds
abbrev pub row_share : RowOf → ℕ → Tally
row_share row rank = tally_with (row.before +ℤ value_of rank row.cells) row.count (most row)

-- the most that a prefix and sets of the cells after it earn together, nothing where no cell follows
abbrev pub most_with : ℤ → List (ℕ × ℤ) → ℤ
most_with earned [] = pos 0
most_with earned (cell ∷ cells) = positive_part (earned +ℤ gain (cell ∷ cells))

-- the most that a row gives a set of its ranks of which z is the least and not the only one
abbrev pub tail_most : RowOf → ℕ → ℤ
tail_most row z = most_with (row.before +ℤ value_of z row.cells) (after z row.cells)

-- what a row tells of what grows a rank that it holds
abbrev pub tail_share : RowOf → ℕ → Tally
tail_share row rank = tally_with (pos 0) 0 (tail_most row rank)

-- the bound on what sets earn over rows that hold z
abbrev pub most_over : List RowOf → ℕ → ℤ
most_over [] z = pos 0
most_over (row ∷ rows) z = (if has z row.cells then most row else pos 0) +ℤ most_over rows z

-- the bound on what sets earn over rows of which z is the least rank and not the only one
abbrev pub tail_over : List RowOf → ℕ → ℤ
tail_over [] z = pos 0
tail_over (row ∷ rows) z = (if has z row.cells then tail_most row z else pos 0) +ℤ tail_over rows z

-- what rows tell of a rank
abbrev pub told : List RowOf → ℕ → Tally
told rows z = tally_with (over rows (z ∷ [])) (count_over rows (z ∷ [])) (most_over rows z)

-- what rows tell of what grows a rank
abbrev pub tail_told : List RowOf → ℕ → Tally
tail_told rows z = tally_with (pos 0) 0 (tail_over rows z)

-- the sum of a tally and of a share stays within the types
pub record Fits (tally share : Tally) : Type 0 where
  pub utility : unsigned_abs tally.utility + unsigned_abs share.utility < 2 ^ 127
  pub count : tally.count + share.count < 2 ^ 64
  pub bound : unsigned_abs tally.bound + unsigned_abs share.bound < 2 ^ 127

-- a row may be told to a tally
pub record HasRoom (tally : Tally) (row : RowOf) : Type 0 where
  pub utility : unsigned_abs tally.utility + size_of row < 2 ^ 127
  pub count : tally.count + row.count < 2 ^ 64
  pub bound : unsigned_abs tally.bound + size_of row < 2 ^ 127

-- every rank of which something was told is noted
pub record AreNoted (tallies : List Tally) (met : List ℕ) : Type 0 where
  pub below : AllByRecursion (λ rank. rank < length tallies) met
  pub each : (rank : ℕ) → Contains met rank ⊎ (tally_at tallies rank ≡ no_tally)

-- what is said of each rank of the rows
abbrev pub EachRank : (ℕ → Type 0) → List RowOf → Type 0
EachRank P rows = AllByRecursion (λ row. AllByRecursion P (ranks_of row)) rows

-- every rank of the rows is below a number
abbrev pub AreBelow : ℕ → List RowOf → Type 0
AreBelow n rows = EachRank (λ rank. rank < n) rows
