-- The itemsets of high average utility. After Hong, Lee and Wang (2009).
use Rattle.std.specs.Prelude.{ℕ, ℤ, pos, ◌*ℤ◌, int_le, Bool, Option, List, length}
use Rattle.std.specs.List.{filter}
use Rattle.hu_kind.specs.declared.entry.Entry.{Entry}
use Rattle.hu_kind.specs.Order.{ranking, cut}
use Rattle.hu_kind.specs.Itemsets.{item_patterns}
use Rattle.hu_average.specs.Order.{average_cmp}

-- whether an entry earns at least a utility for each number of its key
abbrev pub reaches : ℤ → Entry → Bool
reaches least e = int_le (least *ℤ pos (length e.key)) e.utility

-- the entries that do
abbrev pub reaching : ℤ → List Entry → List Entry
reaching least entries = filter (reaches least) entries

-- those of the itemsets of a database, by average, and the first k of them where there is a k
abbrev pub average_answer : List (List (ℕ × ℤ)) → ℤ → Option ℕ → List Entry
average_answer records least top = cut top (ranking average_cmp (reaching least (item_patterns records)))
