-- The text of an answer, read: each line tells the numbers of a key, then `#SUP:` and a support
-- where the task prints one, then `#UTIL:` and a utility.
use Rattle.std.specs.Prelude.{
  ℕ,
  ◌^◌,
  ◌<◌,
  ◌==◌,
  ℤ,
  pos,
  unsigned_abs,
  Bool,
  Option,
  None,
  Some,
  List,
  map,
  filter_map,
  slice_get,
  slice_index,
  codes,
}
use Rattle.std.specs.List.{AllByRecursion, before_first, after_first}
use Rattle.std.specs.Option.{option_and_then}
use Rattle.std.specs.Result.{result_ok}
use Rattle.std.specs.Str.{bytes_eq}
use Rattle.hu_kind.specs.declared.entry.Entry.{Entry}
use Rattle.hu_kind.specs.declared.task.Task.{Task}
use Rattle.hu_kind.specs.declared.task.Task.TheVariants.{Items, Closed, Sequences}
use Rattle.hu_kind.specs.Number.{signed_number}
use Rattle.hu_kind.specs.Token.{tokens}
use Rattle.hu_lines.specs.Pieces.{lines}

-- what a line of an answer tells: a key, and a support and a utility where they stand
pub record Told : Type 0 where
  pub key : List ℤ
  pub support : Option ℤ
  pub utility : Option ℤ

-- the number of a word, where it is one
abbrev pub number_in : List ℕ → Option ℤ
number_in word = result_ok (signed_number word)

-- whether a word is a label: it begins with `#` (byte 35)
abbrev pub is_label : List ℕ → Bool
is_label word = slice_index word 0 == 35

-- the number after a label
abbrev pub number_after : List ℕ → List (List ℕ) → Option ℤ
number_after label words =
    option_and_then number_in (slice_get (after_first (bytes_eq label) words) 0)

-- what the words of a line tell
abbrev pub words_tell : List (List ℕ) → Told
words_tell words = record {
  key = filter_map number_in (before_first is_label words);
  support = number_after (codes "#SUP:") words;
  utility = number_after (codes "#UTIL:") words;
}

-- what a text tells, line by line
abbrev pub told : List ℕ → List Told
told text = map (λ line. words_tell (tokens line)) (lines text)

-- the support of an entry, where its task prints it
abbrev pub printed_support : Task → Entry → Option ℤ
printed_support Items e = None
printed_support Closed e = Some (pos e.support)
printed_support Sequences e = None

-- what is printed of an entry
abbrev pub printed : Task → Entry → Told
printed task e = record { key = e.key; support = printed_support task e; utility = Some e.utility }

-- a number of at most 2 ^ 127 - 1, whatever its sign
abbrev pub IsSmall : ℤ → Type 0
IsSmall z = unsigned_abs z < 2 ^ 127

-- the numbers of an entry are small enough to be read again
pub record IsReadable (e : Entry) : Type 0 where
  pub key : AllByRecursion IsSmall e.key
  pub utility : IsSmall e.utility
  pub support : e.support < 2 ^ 127

-- so they are of each entry
abbrev pub AreReadable : List Entry → Type 0
AreReadable entries = AllByRecursion IsReadable entries
