-- Worked rows: projections, merged rows and bounds, by computation.
use Rattle.std.specs.Prelude.{
  ◌≡◌,
  ℕ,
  ℤ,
  nat_eq,
  pos,
  negsuc,
  unsigned_abs,
  List,
  [],
  ◌∷◌,
  refl,
  Bool,
  true,
  false,
  ⊤,
}
use mathlib.Core.Path.{subst}
use Rattle.hu_rows.specs.Rows.{RowOf, over, count_over}
use Rattle.hu_rows.specs.Projection.{projected}
use Rattle.hu_rows.specs.Merging.{merged}
use Rattle.hu_rows.specs.Sums.{with_ranks, sum_over, summed, AreSums}
use Rattle.hu_rows.specs.Bounds.{local_bound, subtree_bound}

abbrev pub row : ℤ → ℕ → List (ℕ × ℤ) → RowOf
row before count cells = record { before = before; count = count; cells = cells }

-- three rows, of which the first two have the same ranks
abbrev pub three_rows : List RowOf
three_rows =
    row (pos 0) 1 ((0, pos 4) ∷ (1, pos 2) ∷ (2, pos 3) ∷ [])
    ∷ row (pos 0) 1 ((0, pos 1) ∷ (1, pos 5) ∷ (2, pos 1) ∷ [])
    ∷ row (pos 0) 1 ((0, pos 2) ∷ (2, pos 7) ∷ [])
    ∷ []

-- the same projected by rank 0 and merged
abbrev pub two_rows : List RowOf
two_rows = row (pos 5) 2 ((1, pos 7) ∷ (2, pos 4) ∷ []) ∷ row (pos 2) 1 ((2, pos 7) ∷ []) ∷ []

pub three_rows_by_0 : merged (projected 0 three_rows) ≡ two_rows
three_rows_by_0 = refl

-- what rank 2 earns over them is what 0 and 2 earn over the three
pub over_0_and_2 : over two_rows (2 ∷ []) ≡ over three_rows (0 ∷ 2 ∷ [])
over_0_and_2 = refl

pub count_of_0_and_2 : count_over two_rows (2 ∷ []) ≡ 3
count_of_0_and_2 = refl

pub local_of_1 : local_bound two_rows (1 ∷ 2 ∷ []) 1 ≡ pos 16
local_of_1 = refl

pub local_of_2 : local_bound two_rows (1 ∷ 2 ∷ []) 2 ≡ pos 25
local_of_2 = refl

pub subtree_of_1 : subtree_bound two_rows (1 ∷ 2 ∷ []) 1 ≡ pos 16
subtree_of_1 = refl

pub subtree_of_2 : subtree_bound two_rows (1 ∷ 2 ∷ []) 2 ≡ pos 18
subtree_of_2 = refl

-- two rows with values of either sign
abbrev pub signed_rows : List RowOf
signed_rows =
    row (pos 0) 1 ((0, negsuc 3) ∷ (1, pos 2) ∷ []) ∷ row (pos 0) 1
    ((0, pos 1) ∷ (1, pos 5) ∷ []) ∷ []

pub signed_rows_by_0 : merged (projected 0 signed_rows) ≡ row (negsuc 2) 2 ((1, pos 7) ∷ []) ∷ []
signed_rows_by_0 = refl

pub signed_local : local_bound (merged (projected 0 signed_rows)) (1 ∷ []) 1 ≡ pos 4
signed_local = refl

pub signed_subtree : subtree_bound (merged (projected 0 signed_rows)) (1 ∷ []) 1 ≡ pos 4
signed_subtree = refl

-- merged rows are the sums of the rows with their ranks
pub sum_with_1_and_2 : summed (1 ∷ 2 ∷ []) (with_ranks (1 ∷ 2 ∷ []) (projected 0 three_rows))
    ≡ with_ranks (1 ∷ 2 ∷ []) two_rows
sum_with_1_and_2 = refl

pub sum_with_2 : summed (2 ∷ []) (with_ranks (2 ∷ []) (projected 0 three_rows)) ≡ with_ranks (2 ∷ []) two_rows
sum_with_2 = refl

pub none_with_1 : summed (1 ∷ []) (with_ranks (1 ∷ []) (projected 0 three_rows))
    ≡ with_ranks (1 ∷ []) two_rows
none_with_1 = refl

pub signed_sum_with_1 : summed (1 ∷ []) (with_ranks (1 ∷ []) (projected 0 signed_rows))
    ≡ row (negsuc 2) 2 ((1, pos 7) ∷ []) ∷ []
signed_sum_with_1 = refl

-- two rows over which each set earns the same as over these two
abbrev pub shifted_rows : List RowOf
shifted_rows = row (pos 6) 2 ((1, pos 6) ∷ (2, pos 4) ∷ []) ∷ row (pos 1) 1 ((2, pos 7) ∷ []) ∷ []

pub shifted_over_none : over shifted_rows [] ≡ over two_rows []
shifted_over_none = refl

pub shifted_over_1 : over shifted_rows (1 ∷ []) ≡ over two_rows (1 ∷ [])
shifted_over_1 = refl

pub shifted_over_2 : over shifted_rows (2 ∷ []) ≡ over two_rows (2 ∷ [])
shifted_over_2 = refl

pub shifted_over_1_and_2 : over shifted_rows (1 ∷ 2 ∷ []) ≡ over two_rows (1 ∷ 2 ∷ [])
shifted_over_1_and_2 = refl

-- nothing holds that is false
abbrev Holds : Bool → Type 0
Holds true = ⊤
Holds false = ⊥

-- but they are not the sums
pub shifted_not_sums : AreSums (projected 0 three_rows) shifted_rows → ⊥
shifted_not_sums sums =
    subst (λ rows. Holds (nat_eq (unsigned_abs (sum_over (λ r. r.before) rows)) 1))
    (sums (2 ∷ [])) tt
