-- What a transaction line says: a record, or its first fault.
use Rattle.std.specs.Prelude.{
  ℕ,
  ◌+◌,
  ◌^◌,
  ◌==◌,
  nat_lt,
  ℤ,
  not,
  ◌||◌,
  Option,
  Result,
  Ok,
  Err,
  List,
  [],
  ◌∷◌,
  length,
  position,
  zip,
}
use Rattle.std.specs.Bool.{then_some}
use Rattle.std.specs.Ordering.{int_eq}
use Rattle.std.specs.Option.{option_map, option_map_or}
use Rattle.hu_kind.specs.First.{first_some}
use Rattle.hu_kind.specs.Cells.{by_item, twice}
use Rattle.hu_kind.specs.Number.{number, signed_number}
use Rattle.hu_kind.specs.Record.{absolute_of, total, gain}
use Rattle.hu_trans.specs.declared.fault.Fault.{Fault}
use Rattle.hu_trans.specs.declared.fault.Fault.TheVariants.{
  NotThreeParts,
  BadNumber,
  NoItems,
  TooManyItems,
  CountsDiffer,
  ItemOutOfRange,
  DuplicateItem,
  SumTooLarge,
  TotalDisagrees,
}
use Rattle.hu_trans.specs.Line.{
  parts,
  item_tokens,
  total_tokens,
  value_tokens,
  bad_token,
  bad_total,
  items,
  stated,
  values,
}

-- the line hasn't exactly two `:`
abbrev pub not_three_parts : List (List ℕ) → Option Fault
not_three_parts pieces = then_some (not (length pieces == 3)) NotThreeParts

-- a token isn't a number of its part
abbrev pub bad_number : List (List ℕ) → List (List ℕ) → List (List ℕ) → Option Fault
bad_number first second third = first_some (
    option_map (BadNumber 1) (bad_token number first)
    ∷ option_map (BadNumber 2) (bad_total second)
    ∷ option_map (BadNumber 3) (bad_token signed_number third)
    ∷ [])

-- there is no item
abbrev pub no_items : List ℕ → Option Fault
no_items numbers = then_some (length numbers == 0) NoItems

-- there are more than 4,096 items
abbrev pub too_many_items : List ℕ → Option Fault
too_many_items numbers = then_some (nat_lt 4096 (length numbers)) (TooManyItems (length numbers))

-- there are not as many values as items
abbrev pub counts_differ : List ℕ → List ℤ → Option Fault
counts_differ numbers utilities =
    then_some (not (length numbers == length utilities))
    (CountsDiffer (length numbers) (length utilities))

-- the first item above 2,147,483,647
abbrev pub item_out_of_range : List ℕ → Option Fault
item_out_of_range numbers =
    option_map (λ k. ItemOutOfRange (k + 1)) (position (λ item. nat_lt 2147483647 item) numbers)

-- the smallest item that stands more than once
abbrev pub duplicate_item : List ℕ → Option Fault
duplicate_item numbers = option_map (λ item. DuplicateItem (record { 0 = item })) (twice numbers)

-- the absolute values sum to more than 2 ^ 127 - 1
abbrev pub sum_too_large : List (ℕ × ℤ) → Option Fault
sum_too_large cells = then_some (not (nat_lt (absolute_of cells) (2 ^ 127))) SumTooLarge

-- the total is neither the plain sum nor the sum of the values above 0
abbrev pub total_disagrees : ℤ → List (ℕ × ℤ) → Option Fault
total_disagrees sum cells =
    then_some (not (int_eq sum (total cells) || int_eq sum (gain cells)))
    (TotalDisagrees sum (total cells))

-- what may be wrong with the form of a line, in order
abbrev pub form_faults : List ℕ → List (Option Fault)
form_faults line =
    not_three_parts (parts line)
    ∷ bad_number (item_tokens line) (total_tokens line) (value_tokens line)
    ∷ []

-- what may be wrong with its numbers, in order
abbrev pub number_faults : List ℕ → ℤ → List ℤ → List (Option Fault)
number_faults numbers sum utilities =
    no_items numbers
    ∷ too_many_items numbers
    ∷ counts_differ numbers utilities
    ∷ item_out_of_range numbers
    ∷ duplicate_item numbers
    ∷ sum_too_large (zip numbers utilities)
    ∷ total_disagrees sum (zip numbers utilities)
    ∷ []

-- the first fault of a line's numbers, and where they have none the record of its pairs, their items ascending
abbrev pub judged : List ℕ → ℤ → List ℤ → Result (List (ℕ × ℤ)) Fault
judged numbers sum utilities =
    option_map_or Err (first_some (number_faults numbers sum utilities))
    (Ok (by_item (zip numbers utilities)))

-- the first fault of a line's form, and where it has none what its numbers say
abbrev pub reading : List ℕ → Result (List (ℕ × ℤ)) Fault
reading line =
    option_map_or Err (first_some (form_faults line))
    (judged (items line) (stated line) (values line))
