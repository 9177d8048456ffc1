-- The entries of the patterns that grow from one.
use Rattle.std.specs.Prelude.{◌≡◌, Bool, ◌<◌, ◌^◌, ◌⊎◌, ℕ, ℤ, List, [], ◌∷◌}
use Rattle.std.specs.List.{AllByRecursion, sum_by}
use Rattle.hu_kind.specs.declared.entry.Entry.{Entry}
use Rattle.hu_kind.specs.Record.{absolute_of}
use Rattle.hu_kind.specs.Sequence.{sequence_entry, sequence_support, IsSequence}
use Rattle.hu_chain.specs.declared.chain.Growth.{Growth}
use Rattle.hu_chain.specs.Grown.{grown, IsGrownFrom}
use Rattle.hu_span.specs.Gather.{MayTake}
use Rattle.hu_span.specs.Kept.{AreKept}

-- the views of sequence records
abbrev pub Records : Type 0
Records = List (List (List (ℕ × ℤ)))

-- a sequence of itemsets
abbrev pub Pattern : Type 0
Pattern = List (List ℕ)

-- records that keep their rules, and whose values sum to at most 2 ^ 127 - 1
pub record AreRecords (records : List (List (List (ℕ × ℤ)))) : Type 0 where
  pub rules : AllByRecursion IsSequence records
  pub fits : sum_by (λ elements. sum_by absolute_of elements) records < 2 ^ 127

-- a pattern comes of one item by growths
abbrev pub IsReached : List (List ℕ) → Type 0
IsReached pattern = (item : ℕ) × IsGrownFrom ((item ∷ []) ∷ []) pattern

-- it does, or it is the empty one
abbrev pub IsBegun : List (List ℕ) → Type 0
IsBegun pattern = (pattern ≡ []) ⊎ IsReached pattern

-- an entry is that of a pattern of kept items that grows from one, in any number of steps, and occurs
pub record Grows (records : List (List (List (ℕ × ℤ)))) (keep : ℕ → Bool) (pattern : List (List ℕ))
    (entry : Entry) : Type 0 where
  pub other : List (List ℕ)
  pub from : IsGrownFrom pattern other
  pub kept : AreKept keep other
  pub occurs : 0 < sequence_support records other
  pub is : entry ≡ sequence_entry records other

-- the same, in at least one step
pub record GrowsOn (records : List (List (List (ℕ × ℤ)))) (keep : ℕ → Bool)
    (pattern : List (List ℕ)) (entry : Entry) : Type 0 where
  pub growth : Growth
  pub item : ℕ
  pub may : MayTake growth pattern item
  pub grows : Grows records keep (grown growth pattern item) entry

-- the same, in at least two steps
pub record GrowsOver (records : List (List (List (ℕ × ℤ)))) (keep : ℕ → Bool)
    (pattern : List (List ℕ)) (entry : Entry) : Type 0 where
  pub growth : Growth
  pub item : ℕ
  pub may : MayTake growth pattern item
  pub on : GrowsOn records keep (grown growth pattern item) entry
