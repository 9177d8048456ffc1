-- Two bounds on what a set of kept ranks earns over rows. After EFIM (Zida and others, 2015), with the positive part
-- taken for each row, so that values below 0 are allowed.
use Rattle.std.specs.Prelude.{ℕ, ◌<◌, IsTrue, ℤ, pos, ◌+ℤ◌, ◌≤ℤ◌, List, [], ◌∷◌, slice_index_or, if◌then◌else◌}
use Rattle.std.specs.List.{AllByRecursion}
use Rattle.hu_kind.specs.Order.{Ascend}
use Rattle.hu_kind.specs.Record.{has, value_of, positive_part}
use Rattle.hu_rows.specs.Rows.{RowOf, over}
use Rattle.hu_totals.specs.Cells.{after, among, kept_gain}

-- the most that a row gives a set of kept ranks
abbrev pub local_share : List ℕ → RowOf → ℤ
local_share keep row = positive_part (row.before +ℤ kept_gain keep row.cells)

-- the most that a row gives a set of kept ranks of which the least is z
abbrev pub subtree_share : List ℕ → ℕ → RowOf → ℤ
subtree_share keep z row =
    positive_part (row.before +ℤ value_of z row.cells +ℤ kept_gain keep (after z row.cells))

-- the local bound of a rank: the sum of these over the rows that hold it
abbrev pub local_bound : List RowOf → List ℕ → ℕ → ℤ
local_bound [] keep z = pos 0
local_bound (row ∷ rows) keep z =
    (if has z row.cells then local_share keep row else pos 0) +ℤ local_bound rows keep z

-- the subtree bound of a rank
abbrev pub subtree_bound : List RowOf → List ℕ → ℕ → ℤ
subtree_bound [] keep z = pos 0
subtree_bound (row ∷ rows) keep z =
    (if has z row.cells then subtree_share keep z row else pos 0) +ℤ subtree_bound rows keep z

-- what bins hold: for how many ranks, and what each rank was set to last
pub record BinsOf : Type 0 where
  pub ranks : ℕ
  pub local : List ℤ
  pub subtree : List ℤ

-- what bins hold for a rank
abbrev pub value_at : List ℤ → ℕ → ℤ
value_at values rank = slice_index_or values rank (pos 0)

-- what a setting gives a rank: its bound where it is kept, else 0
abbrev pub set_to : (ℕ → ℤ) → List ℕ → ℕ → ℤ
set_to bound keep rank = if among rank keep then bound rank else pos 0

-- the rules of kept ranks: they ascend strictly, and are below a number
pub record AreKept (ranks : ℕ) (keep : List ℕ) : Type 0 where
  pub ascending : Ascend keep
  pub below : AllByRecursion (λ rank. rank < ranks) keep

-- a set of kept ranks
pub record IsKeptSet (keep set : List ℕ) : Type 0 where
  pub ascending : Ascend set
  pub kept : AllByRecursion (λ rank. IsTrue (among rank keep)) set

-- no set of kept ranks earns more over rows than a setting gives any of its ranks
abbrev pub BoundsEach : List RowOf → List ℕ → (ℕ → ℤ) → Type 0
BoundsEach rows keep setting = (set : List ℕ) → IsKeptSet keep set → (z : ℕ) → IsTrue (among z set)
    → over rows set ≤ℤ setting z

-- no set of kept ranks earns more over rows than a setting gives its least rank
abbrev pub BoundsLeast : List RowOf → List ℕ → (ℕ → ℤ) → Type 0
BoundsLeast rows keep setting = (z : ℕ) (set : List ℕ) → IsKeptSet keep (z ∷ set)
    → over rows (z ∷ set) ≤ℤ setting z
