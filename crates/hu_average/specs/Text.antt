-- The text of an answer by average: a line for each entry, with the length of its key.
use Rattle.std.specs.Prelude.{ℕ, ℤ, List, ◌++◌, codes, flat_map, length}
use Rattle.std.specs.Fmt.{decimal, signed_decimal}
use Rattle.hu_kind.specs.declared.entry.Entry.{Entry}
use Rattle.hu_report.specs.Text.{key_text}

-- the utility
abbrev pub earned_text : ℤ → List ℕ
earned_text utility = codes " #UTIL: " ++ signed_decimal utility

-- the length of a key, and the line feed
abbrev pub length_text : ℕ → List ℕ
length_text count = codes " #LEN: " ++ decimal count ++ codes "\n"

-- the line of an entry: the key, the utility and the length of the key
abbrev pub average_line : Entry → List ℕ
average_line e = key_text e.key ++ earned_text e.utility ++ length_text (length e.key)

-- the lines of the entries, in order
abbrev pub average_text : List Entry → List ℕ
average_text entries = flat_map average_line entries
