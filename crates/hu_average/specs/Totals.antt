-- What sets of ranks earn, and their bounds, as passes over records sum them.
use Rattle.std.specs.Prelude.{ℕ, ◌+◌, ◌^◌, ◌<◌, ℤ, pos, ◌+ℤ◌, unsigned_abs, List, slice_index_or}
use Rattle.hu_kind.specs.Database.{utility, support}
use Rattle.hu_average.specs.declared.totals.RankTotal.{RankTotal}
use Rattle.hu_average.specs.Bound.{average_bound}

-- a total of these numbers
abbrev pub total_with : ℤ → ℕ → ℤ → RankTotal
total_with utility support bound = record { utility = utility; support = support; bound = bound }

-- the total of a set that no record holds
abbrev pub no_total : RankTotal
no_total = total_with (pos 0) 0 (pos 0)

-- the sums of two totals
abbrev pub plus : RankTotal → RankTotal → RankTotal
plus a b = total_with (a.utility +ℤ b.utility) (a.support + b.support) (a.bound +ℤ b.bound)

-- the total at a place
abbrev pub total_at : List RankTotal → ℕ → RankTotal
total_at totals i = slice_index_or totals i no_total

-- a total stays within the types where a record more of so great values comes to it
pub record Fits (total : RankTotal) (size : ℕ) : Type 0 where
  pub utility : unsigned_abs total.utility + size < 2 ^ 127
  pub support : total.support + 1 < 2 ^ 64
  pub bound : unsigned_abs total.bound + size < 2 ^ 127

-- the total of a set over records: what it earns, in how many of them it stands, and its bound
abbrev pub total_of : List (List (ℕ × ℤ)) → List ℕ → RankTotal
total_of records set =
    total_with (utility records set) (support records set) (average_bound records set)
