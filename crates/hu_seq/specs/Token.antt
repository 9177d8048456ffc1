-- The tokens of a sequence line. After SPMF's format of sequence databases with utilities.
use Rattle.std.specs.Prelude.{
  ℕ,
  ◌+◌,
  ◌-◌,
  ◌==◌,
  nat_eq,
  nat_lt,
  ℤ,
  pos,
  int_lt,
  unsigned_abs,
  Bool,
  true,
  false,
  Option,
  None,
  Some,
  List,
  length,
  take,
  drop,
  codes,
  if◌then◌else◌,
}
use Rattle.std.specs.List.{position, starts_with, ends_with}
use Rattle.std.specs.Option.{option_map, option_and_then, option_or, is_none}
use Rattle.std.specs.Result.{result_ok}
use Rattle.std.specs.Str.{bytes_eq}
use Rattle.hu_kind.specs.Number.{number, signed_number}
use Rattle.hu_seq.specs.declared.token.Token.{Token}
use Rattle.hu_seq.specs.declared.token.Token.TheVariants.{Cell, ItemsetEnd, SequenceEnd, Total}

-- the cell of a text of its item and a text of its value
abbrev pub cell_from : List ℕ → List ℕ → Option Token
cell_from item value =
    option_and_then (λ i. option_map (λ v. Cell (unsigned_abs i) v)
    (result_ok (signed_number value))) (result_ok (number item))

-- the cell of two such texts with the first `[` (byte 91) between them
abbrev pub cell_inside : List ℕ → Option Token
cell_inside text =
    option_and_then (λ k. cell_from (take k text) (drop (k + 1) text))
    (position (λ byte. byte == 91) text)

-- a cell: a number, `[`, a signed number and `]`
abbrev pub cell_of : List ℕ → Option Token
cell_of text = if ends_with nat_eq text (codes "]") then cell_inside (take (length text - 1) text) else None

-- a total: `SUtility:` and a signed number
abbrev pub total_of : List ℕ → Option Token
total_of text = if starts_with nat_eq text (codes "SUtility:") then option_map Total (result_ok (signed_number (drop 9 text))) else None

-- what a text says: the end of an itemset, the end of the sequence, a total or a cell
unfoldable pub token_of : List ℕ → Option Token
token_of text =
    if bytes_eq text (codes "-1") then Some ItemsetEnd
    else (if bytes_eq text (codes "-2") then Some SequenceEnd
    else option_or (total_of text) (cell_of text))

-- a text of none of the four kinds
abbrev pub is_unknown : List ℕ → Bool
is_unknown text = is_none (token_of text)

-- the four kinds of token
abbrev pub is_cell : Token → Bool
is_cell (Cell item value) = true
is_cell _ = false

abbrev pub is_itemset_end : Token → Bool
is_itemset_end ItemsetEnd = true
is_itemset_end _ = false

abbrev pub is_sequence_end : Token → Bool
is_sequence_end SequenceEnd = true
is_sequence_end _ = false

abbrev pub is_total : Token → Bool
is_total (Total sum) = true
is_total _ = false

-- a cell whose item is above 2,147,483,647
abbrev pub is_out_of_range : Token → Bool
is_out_of_range (Cell item value) = nat_lt 2147483647 item
is_out_of_range _ = false

-- a cell whose value is below 0
abbrev pub is_negative : Token → Bool
is_negative (Cell item value) = int_lt value (pos 0)
is_negative _ = false

-- the pair (item, value) of a cell
abbrev pub pair_in : Token → Option (ℕ × ℤ)
pair_in (Cell item value) = Some (item, value)
pair_in _ = None

-- the sum that a total states
abbrev pub sum_in : Token → Option ℤ
sum_in (Total sum) = Some sum
sum_in _ = None
