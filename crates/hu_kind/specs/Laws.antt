-- What holds of the entries of all patterns of a database.
use Rattle.std.specs.Prelude.{ℕ, ◌≤◌, ℤ, unsigned_abs, List}
use Rattle.std.specs.List.{sum_by, AllByRecursion, Contains}
use Rattle.hu_kind.specs.declared.entry.Entry.{Entry}
use Rattle.hu_kind.specs.Record.{absolute_of}
use Rattle.hu_kind.specs.Itemsets.{item_patterns}
use Rattle.hu_kind.specs.Sequence.{sequence_patterns, IsSequence}

-- an itemset earns, or loses, no more than the absolute sums of the records together
abbrev pub ItemsEarnWithin : Type 0
ItemsEarnWithin = (records : List (List (ℕ × ℤ))) (e : Entry) → Contains (item_patterns records) e
    → unsigned_abs e.utility ≤ sum_by absolute_of records

-- and nor does a sequence
abbrev pub SequencesEarnWithin : Type 0
SequencesEarnWithin = (records : List (List (List (ℕ × ℤ)))) → AllByRecursion IsSequence records
    → (e : Entry) → Contains (sequence_patterns records) e
    → unsigned_abs e.utility ≤ sum_by (sum_by absolute_of) records
