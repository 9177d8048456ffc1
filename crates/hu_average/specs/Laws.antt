-- What holds of every answer by average.
use Rattle.std.specs.Prelude.{◌≡◌, ◌↔◌, ℕ, ◌<◌, ℤ, pos, ◌*ℤ◌, Option, None, List, length, get_or}
use Rattle.std.specs.List.{Contains}
use Rattle.std.specs.List.Sorted.{IsPermutation}
use Rattle.std.specs.declared.cmp.Ordering.TheVariants.{Less}
use Rattle.hu_kind.specs.declared.entry.Entry.{Entry}
use Rattle.hu_answer.specs.Entries.{IsEntryOf, IsFoundSet}
use Rattle.hu_average.specs.Answer.{average_answer}
use Rattle.hu_average.specs.Order.{average_cmp}

-- an entry stands in it exactly where it is that of a set that earns the minimum for each of its items
abbrev pub IsAverageAnswer : Type 0
IsAverageAnswer = (records : List (List (ℕ × ℤ))) (least : ℤ) (entry : Entry) →
    Contains (average_answer records least None) entry ↔
    ((items : List ℕ) × IsFoundSet records (least *ℤ pos (length items)) items
    × IsEntryOf records items entry)

-- each entry comes before those after it in the order by average
abbrev pub AveragesAscend : Type 0
AveragesAscend = (records : List (List (ℕ × ℤ))) (least : ℤ) (top : Option ℕ) (i j : ℕ) (d : Entry) →
    i < j → j < length (average_answer records least top) →
    average_cmp (get_or (average_answer records least top) i d)
    (get_or (average_answer records least top) j d) ≡ Less

-- the order of the records doesn't matter
abbrev pub AveragesInAnyOrder : Type 0
AveragesInAnyOrder = (first second : List (List (ℕ × ℤ))) (least : ℤ) (top : Option ℕ) →
    IsPermutation first second →
    average_answer first least top ≡ average_answer second least top
