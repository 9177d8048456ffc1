-- A store is the task of a kept answer with all its records, as one text: the line `hupm shelf 1`, the line `TASK MIN TOP`,
-- and the canonical line of each record. TASK is `items` or `closed`, MIN the least utility, and TOP `all` or how many entries
-- there may be. Every line has its line feed, numbers are written without leading zeros, and one space parts them.
use Rattle.std.specs.Prelude.{
  ◌≡◌,
  ℕ,
  ◌^◌,
  nat_lt,
  nat_le,
  nat_eq,
  ℤ,
  pos,
  negsuc,
  unsigned_abs,
  Bool,
  true,
  false,
  ◌&&◌,
  Option,
  None,
  Some,
  Ok,
  List,
  ◌++◌,
  length,
  flat_map,
  filter_map,
  codes,
  decimal,
  unwrap_or,
  if◌then◌else◌,
}
use Rattle.std.specs.Bool.{then_some}
use Rattle.std.specs.Fmt.{signed_decimal}
use Rattle.std.specs.List.{All, after_first, before_first, slice_split, sum_by}
use Rattle.std.specs.Option.{option_map}
use Rattle.std.specs.Result.{result_ok}
use Rattle.std.specs.Str.{bytes_eq}
use Rattle.hu_kind.specs.Number.{number}
use Rattle.hu_kind.specs.Record.{absolute_of}
use Rattle.hu_trans.specs.Canonical.{canonical_line, IsPlainLine}
use Rattle.hu_trans.specs.Reading.{reading}
use Rattle.hu_kept.specs.Kept.{Keeping, fresh, with_batch}

-- ---- the text of a store

abbrev pub task_word : Bool → List ℕ
task_word closed = if closed then codes "closed" else codes "items"

abbrev pub top_word : Option ℕ → List ℕ
top_word None = codes "all"
top_word (Some k) = decimal k

-- the settings, `TASK MIN TOP`
abbrev pub settings_line : Keeping → List ℕ
settings_line s = task_word s.closed ++ (codes " " ++ (signed_decimal s.least ++ (codes " " ++ top_word s.top)))

-- a record, with its line feed
abbrev pub record_text : List (ℕ × ℤ) → List ℕ
record_text cells = canonical_line cells ++ codes "\n"

-- records, in order
abbrev pub records_text : List (List (ℕ × ℤ)) → List ℕ
records_text records = flat_map record_text records

abbrev pub store_text : Keeping → List ℕ
store_text s = codes "hupm shelf 1\n" ++ (settings_line s ++ (codes "\n" ++ records_text s.records))

-- ---- the store of a text

-- up to the first such byte, and after it
abbrev pub before_byte : ℕ → List ℕ → List ℕ
before_byte byte text = before_first (λ b. nat_eq b byte) text

abbrev pub after_byte : ℕ → List ℕ → List ℕ
after_byte byte text = after_first (λ b. nat_eq b byte) text

-- what the words of the settings tell, however they are written
abbrev pub closed_said : List ℕ → Bool
closed_said word = bytes_eq word (codes "closed")

abbrev pub least_said : List ℕ → ℤ
least_said word = unwrap_or (result_ok (number word)) (pos 0)

abbrev pub top_said : List ℕ → Option ℕ
top_said word = option_map unsigned_abs (result_ok (number word))

-- what a line tells of the settings: its words are parted by spaces (byte 32)
abbrev pub settings_in : List ℕ → Keeping
settings_in line =
    fresh (least_said (before_byte 32 (after_byte 32 line)))
    (top_said (after_byte 32 (after_byte 32 line))) (closed_said (before_byte 32 line))

-- the record that a line tells, where it has at most 1,048,576 bytes and tells one
abbrev pub record_in : List ℕ → Option (List (ℕ × ℤ))
record_in line = if nat_le (length line) 1048576 then result_ok (reading line) else None

-- the records that the lines of a text tell, which are parted by line feeds (byte 10)
abbrev pub records_in : List ℕ → List (List (ℕ × ℤ))
records_in text = filter_map record_in (slice_split (λ b. nat_eq b 10) text)

-- what a text tells in its lines after the first, however they are written
abbrev pub told_by : List ℕ → Keeping
told_by text =
    with_batch (settings_in (before_byte 10 (after_byte 10 text)))
    (records_in (after_byte 10 (after_byte 10 text)))

-- the limits of the settings: a least utility from 1 to 2^127 - 1, and 1 to 1,000,000 entries where there is a limit
abbrev pub is_least : ℤ → Bool
is_least (pos n) = nat_le 1 n && nat_lt n (2 ^ 127)
is_least (negsuc n) = false

abbrev pub is_top : Option ℕ → Bool
is_top None = true
is_top (Some k) = nat_le 1 k && nat_le k 1000000

-- the limits of a store: those of its settings, an absolute sum of at most 2^127 - 1, and a text of at most 268,435,456 bytes
abbrev pub is_lawful : Keeping → List ℕ → Bool
is_lawful s text =
    is_least s.least && is_top s.top && nat_lt (sum_by absolute_of s.records) (2 ^ 127)
    && nat_le (length text) 268435456

-- the store of a text: what it tells, where that is within the limits and this is its text
abbrev pub store_of : List ℕ → Option Keeping
store_of text =
    then_some (is_lawful (told_by text) text && bytes_eq (store_text (told_by text)) text)
    (told_by text)

-- ---- the stores that may be

-- a record whose canonical line is one line and tells it, as that of every `Record` is and does
pub record IsWritten (cells : List (ℕ × ℤ)) : Type 0 where
  pub plain : IsPlainLine (canonical_line cells)
  pub again : reading (canonical_line cells) ≡ Ok cells

-- the rules of a store
pub record IsStore (s : Keeping) : Type 0 where
  pub records : All IsWritten s.records
  pub lawful : is_lawful s (store_text s) ≡ true
