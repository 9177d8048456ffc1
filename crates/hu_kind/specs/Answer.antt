-- The answer of a task: the patterns that reach the least utility, each once, in the one order, cut after k.
use Rattle.std.specs.Prelude.{ℕ, ℤ, Option, List, int_le}
use Rattle.std.specs.List.{filter}
use Rattle.hu_kind.specs.declared.entry.Entry.{Entry}
use Rattle.hu_kind.specs.Order.{entry_cmp, ranking, cut}
use Rattle.hu_kind.specs.Itemsets.{item_patterns, closed_patterns}
use Rattle.hu_kind.specs.Sequence.{sequence_patterns}

-- the patterns whose utility reaches the least one
abbrev pub found : ℤ → List Entry → List Entry
found least patterns = filter (λ e. int_le least e.utility) patterns

-- those in the one order, each once, and the first k of them where there is a k
abbrev pub answer : ℤ → Option ℕ → List Entry → List Entry
answer least top patterns = cut top (ranking entry_cmp (found least patterns))

-- the answer of the task `items`
abbrev pub item_answer : List (List (ℕ × ℤ)) → ℤ → Option ℕ → List Entry
item_answer records least top = answer least top (item_patterns records)

-- the answer of the task `closed`
abbrev pub closed_answer : List (List (ℕ × ℤ)) → ℤ → Option ℕ → List Entry
closed_answer records least top = answer least top (closed_patterns records)

-- the answer of the task `seq`
abbrev pub sequence_answer : List (List (List (ℕ × ℤ))) → ℤ → Option ℕ → List Entry
sequence_answer records least top = answer least top (sequence_patterns records)
