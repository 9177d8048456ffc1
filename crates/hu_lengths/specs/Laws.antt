-- What holds of every answer among itemsets of some lengths.
use Rattle.std.specs.Prelude.{◌≡◌, ◌↔◌, ℕ, ◌<◌, ◌≤◌, ℤ, Option, None, List, length, get_or}
use Rattle.std.specs.List.{Contains}
use Rattle.std.specs.List.Sorted.{IsPermutation}
use Rattle.hu_kind.specs.declared.entry.Entry.{Entry}
use Rattle.hu_kind.specs.Order.{Before}
use Rattle.hu_answer.specs.Entries.{IsEntryOf, IsFoundSet}
use Rattle.hu_lengths.specs.Lengths.{sized_answer}

-- an entry stands in it exactly where it is that of a set of such a length that is found
abbrev pub IsSizedAnswer : Type 0
IsSizedAnswer = (records : List (List (ℕ × ℤ))) (least : ℤ) (short long : ℕ) (entry : Entry) →
    Contains (sized_answer records least None short long) entry ↔
    ((items : List ℕ) × IsFoundSet records least items × (short ≤ length items) × (length items ≤ long)
    × IsEntryOf records items entry)

-- each entry comes before those after it in the one order
abbrev pub SizedAscends : Type 0
SizedAscends = (records : List (List (ℕ × ℤ))) (least : ℤ) (top : Option ℕ) (short long i j : ℕ) (d : Entry) →
    i < j → j < length (sized_answer records least top short long) →
    Before (get_or (sized_answer records least top short long) i d)
    (get_or (sized_answer records least top short long) j d)

-- the order of the records doesn't matter
abbrev pub SizedInAnyOrder : Type 0
SizedInAnyOrder = (first second : List (List (ℕ × ℤ))) (least : ℤ) (top : Option ℕ) (short long : ℕ) →
    IsPermutation first second →
    sized_answer first least top short long ≡ sized_answer second least top short long
