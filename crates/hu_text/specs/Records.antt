-- The records of a run: each is lawful, and their absolute sums are at most 2 ^ 127 - 1 together.
use Rattle.std.specs.Prelude.{ℕ, ◌^◌, ◌<◌, ℤ, List}
use Rattle.std.specs.List.{AllByRecursion, sum_by}
use Rattle.hu_kind.specs.Record.{absolute_of, IsRecord}
use Rattle.hu_kind.specs.Sequence.{IsSequence}

-- records of one kind with their rule and their absolute sums
pub record AreOfRun {R : Type 0} (IsLawful : R → Type 0) (absolute : R → ℕ)
    (records : List R) : Type 0 where
  pub lawful : AllByRecursion IsLawful records
  pub sum_fits : sum_by absolute records < 2 ^ 127

-- transactions
abbrev pub AreRecords : List (List (ℕ × ℤ)) → Type 0
AreRecords records = AreOfRun IsRecord absolute_of records

-- sequences
abbrev pub AreSequences : List (List (List (ℕ × ℤ))) → Type 0
AreSequences records = AreOfRun IsSequence (sum_by absolute_of) records
