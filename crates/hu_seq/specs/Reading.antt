-- What a sequence line says: a sequence, or its first fault. The line is one or more itemsets, then `-2`, then one total
-- or nothing; an itemset is one or more cells, then `-1`.
use Rattle.std.specs.Prelude.{
  ℕ,
  ◌+◌,
  ◌-◌,
  ◌^◌,
  nat_lt,
  ℤ,
  pos,
  int_lt,
  Bool,
  true,
  false,
  not,
  ◌&&◌,
  ◌||◌,
  Option,
  None,
  is_none,
  Result,
  Ok,
  Err,
  List,
  [],
  ◌∷◌,
  ◌++◌,
  map,
  take,
  length,
  position,
  filter_map,
  slice_get,
}
use Rattle.std.specs.Bool.{then_some}
use Rattle.std.specs.Ordering.{int_eq}
use Rattle.std.specs.List.{before_first, after_first, position_or_len, count_by, list_any, slice_split}
use Rattle.std.specs.Option.{option_map, option_map_or}
use Rattle.hu_kind.specs.Cells.{by_item, twice}
use Rattle.hu_kind.specs.First.{first_some}
use Rattle.hu_kind.specs.Record.{items_in, total}
use Rattle.hu_kind.specs.Token.{tokens}
use Rattle.hu_seq.specs.declared.fault.SeqFault.{SeqFault}
use Rattle.hu_seq.specs.declared.fault.SeqFault.TheVariants.{
  BadToken,
  NoEnd,
  AfterEnd,
  OpenItemset,
  EmptyItemset,
  NoItems,
  TooManyItems,
  ItemOutOfRange,
  DuplicateItem,
  Negative,
  SumTooLarge,
  TotalDisagrees,
}
use Rattle.hu_seq.specs.declared.token.Token.{Token}
use Rattle.hu_seq.specs.Token.{
  token_of,
  is_unknown,
  is_cell,
  is_itemset_end,
  is_sequence_end,
  is_total,
  is_out_of_range,
  is_negative,
  pair_in,
  sum_in,
}

-- the tokens of a line that are of one of the four kinds
abbrev pub known : List ℕ → List Token
known line = filter_map token_of (tokens line)

-- the cells among tokens, as pairs
abbrev pub cells : List Token → List (ℕ × ℤ)
cells told = filter_map pair_in told

-- what stands before the first `-2`, without its last token
abbrev pub body : List Token → List Token
body told = take (position_or_len is_sequence_end told - 1) told

-- the itemsets of a body: the cells between its `-1`s
abbrev pub itemsets : List Token → List (List (ℕ × ℤ))
itemsets told = map cells (slice_split is_itemset_end told)

-- the first token of none of the four kinds
abbrev pub bad_token : List (List ℕ) → Option SeqFault
bad_token texts = option_map (λ k. BadToken (k + 1)) (position is_unknown texts)

-- no token is `-2`
abbrev pub no_end : List Token → Option SeqFault
no_end told = then_some (is_none (position is_sequence_end told)) NoEnd

-- tokens that are nothing, or one total alone
abbrev pub is_total_or_nothing : List Token → Bool
is_total_or_nothing [] = true
is_total_or_nothing (token ∷ []) = is_total token
is_total_or_nothing (token ∷ next ∷ told) = false

-- a total stands before the first `-2`, or a token follows it and what follows isn't one total alone
abbrev pub after_end : List Token → Option SeqFault
after_end told =
    then_some (list_any is_total (before_first is_sequence_end told)
    || not (is_total_or_nothing (after_first is_sequence_end told))) AfterEnd

-- whether the first of tokens passes a test, and whether the last does
abbrev pub first_is : (Token → Bool) → List Token → Bool
first_is test told = option_map_or test (slice_get told 0) false

abbrev pub last_is : (Token → Bool) → List Token → Bool
last_is test told = option_map_or test (slice_get told (length told - 1)) false

-- the token before the first `-2` is a cell
abbrev pub open_itemset : List Token → Option SeqFault
open_itemset told = then_some (last_is is_cell (before_first is_sequence_end told)) OpenItemset

-- whether a `-1` follows a `-1`
abbrev pub has_two_ends : List Token → Bool
has_two_ends [] = false
has_two_ends (token ∷ told) = (is_itemset_end token && first_is is_itemset_end told) || has_two_ends told

-- a `-1` is the first token or follows a `-1`
abbrev pub empty_itemset : List Token → Option SeqFault
empty_itemset told = then_some (first_is is_itemset_end told || has_two_ends told) EmptyItemset

-- `-2` is the first token
abbrev pub no_items : List Token → Option SeqFault
no_items told = then_some (first_is is_sequence_end told) NoItems

-- there are more than 4,096 cells
abbrev pub too_many_items : List Token → Option SeqFault
too_many_items told = then_some (nat_lt 4096 (count_by is_cell told)) (TooManyItems (count_by is_cell told))

-- the first cell whose item is above 2,147,483,647
abbrev pub item_out_of_range : List Token → Option SeqFault
item_out_of_range told = option_map (λ k. ItemOutOfRange (k + 1)) (position is_out_of_range told)

-- in the first itemset that holds an item more than once, the smallest such item
abbrev pub duplicate_item : List (List (ℕ × ℤ)) → Option SeqFault
duplicate_item sets =
    option_map (λ item. DuplicateItem (record { 0 = item }))
    (first_some (map (λ set. twice (items_in set)) sets))

-- the first cell whose value is below 0
abbrev pub negative : List Token → Option SeqFault
negative told = option_map (λ k. Negative (k + 1)) (position is_negative told)

-- the values sum to more than 2 ^ 127 - 1
abbrev pub sum_too_large : List (ℕ × ℤ) → Option SeqFault
sum_too_large pairs = then_some (int_lt (pos (2 ^ 127 - 1)) (total pairs)) SumTooLarge

-- a total stands and isn't the sum
abbrev pub total_disagrees : List ℤ → List (ℕ × ℤ) → Option SeqFault
total_disagrees [] pairs = None
total_disagrees (sum ∷ sums) pairs =
    then_some (not (int_eq sum (total pairs))) (TotalDisagrees sum (total pairs))

-- the faults in the order of the tokens
abbrev pub order_faults : List Token → List (Option SeqFault)
order_faults told = no_end told ∷ after_end told ∷ open_itemset told ∷ empty_itemset told ∷ no_items told ∷ []

-- the faults in the cells and their sum
abbrev pub cell_faults : List Token → List (Option SeqFault)
cell_faults told =
    too_many_items told
    ∷ item_out_of_range told
    ∷ duplicate_item (itemsets (body told))
    ∷ negative told
    ∷ sum_too_large (cells told)
    ∷ total_disagrees (filter_map sum_in told) (cells told)
    ∷ []

-- the faults that a line may have, in the order in which the first of them counts
abbrev pub faults : List ℕ → List (Option SeqFault)
faults line = bad_token (tokens line) ∷ order_faults (known line) ++ cell_faults (known line)

-- the first fault of a line, and where it has none its itemsets in order, each with its items ascending
unfoldable pub reading : List ℕ → Result (List (List (ℕ × ℤ))) SeqFault
reading line = option_map_or Err (first_some (faults line)) (Ok (map by_item (itemsets (body (known line)))))
