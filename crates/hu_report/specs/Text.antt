-- The text of an answer: a line for each entry, its numbers as decimals.
use Rattle.std.specs.Prelude.{ℕ, ℤ, List, ◌++◌, codes, flat_map}
use Rattle.std.specs.List.{join_by}
use Rattle.std.specs.Fmt.{decimal, signed_decimal}
use Rattle.hu_kind.specs.declared.entry.Entry.{Entry}
use Rattle.hu_kind.specs.declared.task.Task.{Task}
use Rattle.hu_kind.specs.declared.task.Task.TheVariants.{Items, Closed, Sequences}

-- the numbers of a key, with one space between
abbrev pub key_text : List ℤ → List ℕ
key_text key = join_by signed_decimal (codes " ") key

-- numbers, with one space before each
abbrev pub spaced_text : List ℤ → List ℕ
spaced_text numbers = flat_map (λ n. codes " " ++ signed_decimal n) numbers

-- the support
abbrev pub support_text : ℕ → List ℕ
support_text support = codes " #SUP: " ++ decimal support

-- the utility, and the line feed
abbrev pub utility_text : ℤ → List ℕ
utility_text utility = codes " #UTIL: " ++ signed_decimal utility ++ codes "\n"

-- the line of an entry of `items` or `seq`: the key and the utility
abbrev pub item_line : Entry → List ℕ
item_line e = key_text e.key ++ utility_text e.utility

-- the line of an entry of `closed`: the key, the support and the utility
abbrev pub closed_line : Entry → List ℕ
closed_line e = key_text e.key ++ support_text e.support ++ utility_text e.utility

-- the line of an entry, by the task
abbrev pub line_of : Task → Entry → List ℕ
line_of Items = item_line
line_of Closed = closed_line
line_of Sequences = item_line

-- the lines of the entries, in order
abbrev pub answer_text : Task → List Entry → List ℕ
answer_text task entries = flat_map (line_of task) entries
