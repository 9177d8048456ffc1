-- Some ranks below a number, each once, and lists that go along with them.
use Rattle.std.specs.Prelude.{◌≡◌, ℕ, ◌<◌, ◌==◌, false, List, [], ◌∷◌, length, take, slice_index_or, if◌then◌else◌}
use Rattle.hu_totals.specs.Cells.{among}

-- some of the ranks below a number
pub record SlotsOf : Type 0 where
  pub room : ℕ
  pub ranks : List ℕ

-- the first place of a rank among others
pub record IsPlace (ranks : List ℕ) (rank place : ℕ) : Type 0 where
  pub within : place < length ranks
  pub here : slice_index_or ranks place 0 ≡ rank
  pub first : among rank (take place ranks) ≡ false

-- what a list that goes along with ranks has at one of them, and what is taken for all others
abbrev pub at : {A : Type 0} → A → List ℕ → List A → ℕ → A
at none [] values z = none
at none (rank ∷ ranks) [] z = none
at none (rank ∷ ranks) (value ∷ values) z = if z == rank then value else at none ranks values z

-- the rule of slots: each rank has its place written at it
abbrev pub AreSlots : List ℕ → List ℕ → Type 0
AreSlots places ranks = (i : ℕ) → i < length ranks
    → (slice_index_or ranks i 0 < length places)
    × (slice_index_or places (slice_index_or ranks i 0) 0 ≡ i)
