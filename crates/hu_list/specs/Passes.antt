-- What a pass over the cells of tails leaves at each rank.
use Rattle.std.specs.Prelude.{
  ℕ,
  ◌+◌,
  ◌^◌,
  ◌<◌,
  nat_lt,
  ◌==◌,
  ◌&&◌,
  ℤ,
  pos,
  ◌+ℤ◌,
  unsigned_abs,
  List,
  [],
  ◌∷◌,
  ◌++◌,
  length,
  if◌then◌else◌,
}
use Rattle.hu_kind.specs.Record.{positive_part}
use Rattle.hu_list.specs.declared.sums.Sum.{Sum}
use Rattle.hu_totals.specs.Cells.{among, kept_gain}
use Rattle.hu_list.specs.Tails.{TailOf, share}

-- what a rank has after a pass over cells, where a cell makes something anew of what its rank has, by the cells after it
abbrev pub met : {A : Type 0} → (ℕ × ℤ → List (ℕ × ℤ) → A → A) → ℕ → List (ℕ × ℤ) → A → A
met make z [] a = a
met make z (cell ∷ cells) a = if z == cell.0 then make cell cells a else met make z cells a

-- the same over tails
abbrev pub met_in : {A : Type 0} → (TailOf → ℕ × ℤ → List (ℕ × ℤ) → A → A) → ℕ → List TailOf → A → A
met_in make z [] a = a
met_in make z (tail ∷ tails) a = met_in make z tails (met (make tail) z tail.cells a)

-- a kept rank gains the share of its tail
abbrev pub gaining : List ℕ → TailOf → ℕ × ℤ → List (ℕ × ℤ) → ℤ → ℤ
gaining keep tail cell cells sum = if among cell.0 keep then sum +ℤ share keep tail else sum

-- a rank's sums with a tail more, at which its set earns so much and kept ranks after it gain so much
abbrev pub sum_with : Sum → ℤ → ℤ → Sum
sum_with sum own rest =
    record {
      support = sum.support + 1;
      utility = sum.utility +ℤ own;
      bound =
          sum.bound +ℤ positive_part (own +ℤ rest);
    }

-- a kept rank has its sums with a tail more
abbrev pub summing : List ℕ → TailOf → ℕ × ℤ → List (ℕ × ℤ) → Sum → Sum
summing keep tail cell cells sum =
    if among cell.0 keep then sum_with sum (tail.own +ℤ cell.1) (kept_gain keep cells) else sum

-- the sums of no tail
abbrev pub no_sum : Sum
no_sum = record { support = 0; utility = pos 0; bound = pos 0 }

-- a kept rank has a tail more, where cells are left
abbrev pub growing : List ℕ → TailOf → ℕ × ℤ → List (ℕ × ℤ) → List TailOf → List TailOf
growing keep tail cell cells tails =
    if among cell.0 keep && nat_lt 0 (length cells) then tails
    ++ (record { own = tail.own +ℤ cell.1; cells = cells }) ∷ [] else tails

-- sums stay within their types where a tail of so great values comes to them
pub record SumsFit (sum : Sum) (size : ℕ) : Type 0 where
  pub support : sum.support + 1 < 2 ^ 64
  pub utility : unsigned_abs sum.utility + size < 2 ^ 127
  pub bound : unsigned_abs sum.bound + size < 2 ^ 127
