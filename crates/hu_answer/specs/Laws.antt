-- What holds of every answer.
use Rattle.std.specs.Prelude.{
  true,
  is_some,
  ◌≡◌,
  ◌↔◌,
  ℕ,
  ◌+◌,
  ◌<◌,
  ◌≤◌,
  ℤ,
  ◌+ℤ◌,
  ◌≤ℤ◌,
  Option,
  None,
  Some,
  List,
  ◌++◌,
  length,
  get_or,
  take,
}
use Rattle.std.specs.List.{AllByRecursion, Contains}
use Rattle.std.specs.List.Sorted.{IsPermutation}
use Rattle.hu_kind.specs.declared.entry.Entry.{Entry}
use Rattle.hu_kind.specs.Answer.{answer, item_answer, closed_answer, sequence_answer}
use Rattle.hu_kind.specs.Database.{utility, support}
use Rattle.hu_kind.specs.Order.{Before}
use Rattle.hu_kind.specs.Sequence.{best_utility, IsSequence}
use Rattle.hu_answer.specs.Occurrences.{is_occurrence, earned_at}
use Rattle.hu_answer.specs.Supersets.{IsClosedSet}
use Rattle.hu_answer.specs.Entries.{IsEntryOf, IsFoundSet, IsSequenceEntryOf, IsFoundSequence}

-- an entry stands in the answer exactly where it is that of a set that is found
abbrev pub IsItemAnswer : Type 0
IsItemAnswer = (records : List (List (ℕ × ℤ))) (least : ℤ) (entry : Entry) →
    Contains (item_answer records least None) entry ↔
    ((items : List ℕ) × IsFoundSet records least items × IsEntryOf records items entry)

-- and in the answer over closed sets where that set is closed too
abbrev pub IsClosedAnswer : Type 0
IsClosedAnswer = (records : List (List (ℕ × ℤ))) (least : ℤ) (entry : Entry) →
    Contains (closed_answer records least None) entry ↔
    ((items : List ℕ) × IsFoundSet records least items × IsClosedSet records items
    × IsEntryOf records items entry)

-- and in the answer over sequences exactly where it is that of a sequence that is found
abbrev pub IsSequenceAnswer : Type 0
IsSequenceAnswer = (records : List (List (List (ℕ × ℤ)))) → AllByRecursion IsSequence records
    → (least : ℤ) (entry : Entry) →
    Contains (sequence_answer records least None) entry ↔
    ((pattern : List (List ℕ)) × IsFoundSequence records least pattern
    × IsSequenceEntryOf records pattern entry)

-- each entry of an answer comes before those after it in the one order
abbrev pub AnswerAscends : Type 0
AnswerAscends = (least : ℤ) (top : Option ℕ) (patterns : List Entry) (i j : ℕ) (d : Entry) →
    i < j → j < length (answer least top patterns) →
    Before (get_or (answer least top patterns) i d) (get_or (answer least top patterns) j d)

-- so the same entry never stands at two places
abbrev pub StandsOnce : Type 0
StandsOnce = (least : ℤ) (top : Option ℕ) (patterns : List Entry) (i j : ℕ) (d : Entry) →
    i < length (answer least top patterns) → j < length (answer least top patterns) →
    get_or (answer least top patterns) i d ≡ get_or (answer least top patterns) j d → i ≡ j

-- the answer cut after k is the first k of the whole answer
abbrev pub IsFirstOfAnswer : Type 0
IsFirstOfAnswer = (least : ℤ) (k : ℕ) (patterns : List Entry) → answer least (Some k) patterns
    ≡ take k (answer least None patterns)

-- what the cut leaves out comes after all that it keeps
abbrev pub OutsideComesAfter : Type 0
OutsideComesAfter = (least : ℤ) (k : ℕ) (patterns : List Entry) (inside outside : Entry) →
    Contains (answer least (Some k) patterns) inside → Contains (answer least None patterns) outside →
    (Contains (answer least (Some k) patterns) outside → ⊥) → Before inside outside

-- a greater k keeps the answer of a smaller one as its front
abbrev pub GreaterTopKeepsFront : Type 0
GreaterTopKeepsFront = (least : ℤ) (k more : ℕ) (patterns : List Entry) → k ≤ more →
    answer least (Some k) patterns ≡ take k (answer least (Some more) patterns)

-- a higher minimum keeps a front of the answer
abbrev pub HigherMinimumKeepsFront : Type 0
HigherMinimumKeepsFront = (least higher : ℤ) (patterns : List Entry) → least ≤ℤ higher →
    answer higher None patterns ≡ take (length (answer higher None patterns)) (answer least None patterns)

-- over two lists of records a set earns the sum of what it earns in each
abbrev pub UtilitiesAdd : Type 0
UtilitiesAdd = (first second : List (List (ℕ × ℤ))) (items : List ℕ) →
    utility (first ++ second) items ≡ utility first items +ℤ utility second items

-- and is held by as many records as in each together
abbrev pub SupportsAdd : Type 0
SupportsAdd = (first second : List (List (ℕ × ℤ))) (items : List ℕ) →
    support (first ++ second) items ≡ support first items + support second items

-- the order of the records doesn't matter to the answer over itemsets
abbrev pub ItemsInAnyOrder : Type 0
ItemsInAnyOrder = (first second : List (List (ℕ × ℤ))) (least : ℤ) (top : Option ℕ)
    → IsPermutation first second →
    item_answer first least top ≡ item_answer second least top

-- nor to that over closed itemsets
abbrev pub ClosedInAnyOrder : Type 0
ClosedInAnyOrder = (first second : List (List (ℕ × ℤ))) (least : ℤ) (top : Option ℕ)
    → IsPermutation first second →
    closed_answer first least top ≡ closed_answer second least top

-- nor to that over sequences
abbrev pub SequencesInAnyOrder : Type 0
SequencesInAnyOrder = (first second : List (List (List (ℕ × ℤ)))) (least : ℤ) (top : Option ℕ)
    → IsPermutation first second →
    sequence_answer first least top ≡ sequence_answer second least top

-- a sequence has a best utility in a record exactly where it occurs there
abbrev pub HasBestWhereItOccurs : Type 0
HasBestWhereItOccurs = (pattern : List (List ℕ)) (elements : List (List (ℕ × ℤ))) →
    (is_some (best_utility pattern elements) ≡ true)
    ↔ ((places : List ℕ) × (is_occurrence pattern elements places ≡ true))

-- and that is the greatest sum over its occurrences: one earns it, and none earns more
abbrev pub BestIsReached : Type 0
BestIsReached = (pattern : List (List ℕ)) (elements : List (List (ℕ × ℤ))) (best : ℤ) →
    best_utility pattern elements ≡ Some best →
    (places : List ℕ) × (is_occurrence pattern elements places ≡ true)
    × (earned_at pattern elements places ≡ best)

abbrev pub NoneEarnsMore : Type 0
NoneEarnsMore = (pattern : List (List ℕ)) (elements : List (List (ℕ × ℤ))) (best : ℤ) (places : List ℕ) →
    best_utility pattern elements ≡ Some best → is_occurrence pattern elements places ≡ true →
    earned_at pattern elements places ≤ℤ best
