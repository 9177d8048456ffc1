-- A transaction line tells the items of a record, its total, and the value of each item: `items:total:values`.
-- After SPMF's format of databases with utilities.
use Rattle.std.specs.Prelude.{
  ℕ,
  ◌+◌,
  ◌==◌,
  ℤ,
  pos,
  unsigned_abs,
  Option,
  None,
  Some,
  unwrap_or,
  Result,
  is_ok,
  is_err,
  List,
  [],
  ◌∷◌,
  map,
  position,
  filter_map,
  slice_get,
  if◌then◌else◌,
}
use Rattle.std.specs.List.{slice_split}
use Rattle.std.specs.Option.{option_map}
use Rattle.std.specs.Result.{result_ok}
use Rattle.hu_kind.specs.declared.number.NumberFault.{NumberFault}
use Rattle.hu_kind.specs.Number.{number, signed_number}
use Rattle.hu_kind.specs.Token.{tokens}

-- the parts of a line: the pieces between its `:` (byte 58)
abbrev pub parts : List ℕ → List (List ℕ)
parts line = slice_split (λ byte. byte == 58) line

-- the tokens of a part, counted from 0
abbrev pub tokens_of_part : ℕ → List ℕ → List (List ℕ)
tokens_of_part k line = tokens (unwrap_or (slice_get (parts line) k) [])

-- the tokens of part 1
abbrev pub item_tokens : List ℕ → List (List ℕ)
item_tokens line = tokens_of_part 0 line

-- the tokens of part 2
abbrev pub total_tokens : List ℕ → List (List ℕ)
total_tokens line = tokens_of_part 1 line

-- the tokens of part 3
abbrev pub value_tokens : List ℕ → List (List ℕ)
value_tokens line = tokens_of_part 2 line

-- the numbers that tokens say
abbrev pub numbers : (List ℕ → Result ℤ NumberFault) → List (List ℕ) → List ℤ
numbers read texts = filter_map (λ text. result_ok (read text)) texts

-- where the first token stands that says no number, counted from 1
abbrev pub bad_token : (List ℕ → Result ℤ NumberFault) → List (List ℕ) → Option ℕ
bad_token read texts = option_map (λ k. k + 1) (position (λ text. is_err (read text)) texts)

-- where the tokens of a total are wrong, which have to be one signed number alone
abbrev pub bad_total : List (List ℕ) → Option ℕ
bad_total [] = Some 1
bad_total (text ∷ []) = if is_ok (signed_number text) then None else Some 1
bad_total (text ∷ more ∷ rest) = if is_ok (signed_number text) then Some 2 else Some 1

-- the items that a line tells, in its order
abbrev pub items : List ℕ → List ℕ
items line = map unsigned_abs (numbers number (item_tokens line))

-- the total that it states
abbrev pub stated : List ℕ → ℤ
stated line = unwrap_or (slice_get (numbers signed_number (total_tokens line)) 0) (pos 0)

-- the values that it tells, in its order: the j-th belongs to the j-th item
abbrev pub values : List ℕ → List ℤ
values line = numbers signed_number (value_tokens line)
