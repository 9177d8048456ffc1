-- Sums by rank.
use Rattle.std.specs.Prelude.{
  ◌≡◌,
  ℕ,
  nat_eq,
  ◌&&◌,
  ℤ,
  pos,
  ◌≤ℤ◌,
  int_le,
  int_lt,
  List,
  [],
  ◌∷◌,
  length,
  slice_index_or,
  if◌then◌else◌,
}
use Rattle.std.specs.List.{filter, list_any, range_with_len, IsDistinct}
use Rattle.std.specs.Ordering.{int_eq}
use Rattle.hu_totals.specs.Cells.{among}

-- the sum of a rank
abbrev pub sum_at : List ℤ → ℕ → ℤ
sum_at sums rank = slice_index_or sums rank (pos 0)

-- the ranks whose sum reaches a floor, ascending
abbrev pub ranks_reaching : ℤ → List ℤ → List ℕ
ranks_reaching floor sums = filter (λ rank. int_le floor (sum_at sums rank)) (range_with_len 0 (length sums))

-- a gain where a rank is one of these, else 0
abbrev pub gain_at : List ℕ → ℤ → ℕ → ℤ
gain_at ranks gained rank = if among rank ranks then gained else pos 0

-- a rank where a gain is the first above 0 to its sum, else none
abbrev pub first_rank : ℕ → ℤ → ℤ → List ℕ
first_rank rank sum gained = if int_eq sum (pos 0) && int_lt (pos 0) gained then rank ∷ [] else []

-- no sum is below 0, and the ranks of those above 0 are listed, each once
pub record AreSums (sums : List ℤ) (touched : List ℕ) : Type 0 where
  pub least : (rank : ℕ) → pos 0 ≤ℤ sum_at sums rank
  pub once : IsDistinct nat_eq touched
  pub listed : (rank : ℕ) → list_any (nat_eq rank) touched ≡ int_lt (pos 0) (sum_at sums rank)
