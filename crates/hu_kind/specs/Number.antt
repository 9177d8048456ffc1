-- A number is 1 to 39 decimal digits, leading zeros allowed, and its value is at most 2 ^ 127 - 1.
-- A signed number may have one `-` in front.
use Rattle.std.specs.Prelude.{
  ℕ,
  ◌+◌,
  ◌^◌,
  nat_lt,
  ◌==◌,
  ◌||◌,
  not,
  ℤ,
  pos,
  neg_ℤ,
  Option,
  Result,
  Ok,
  Err,
  List,
  [],
  ◌∷◌,
  length,
  drop,
  slice_index,
  if◌then◌else◌,
}
use Rattle.std.specs.Char.{is_ascii_digit}
use Rattle.std.specs.List.{position}
use Rattle.std.specs.Option.{option_map_or}
use Rattle.std.specs.Result.{result_map_both}
use Rattle.std.specs.Str.Parse.{digits_value}
use Rattle.hu_kind.specs.declared.number.NumberFault.{NumberFault}
use Rattle.hu_kind.specs.declared.number.NumberFault.TheVariants.{Empty, NotDigit, TooLarge}

-- the value of digits, unless there are more than 39 of them or it is above 2 ^ 127 - 1
abbrev pub value_of_digits : List ℕ → Result ℕ NumberFault
value_of_digits text =
    if nat_lt 39 (length text) || not (nat_lt (digits_value 10 text) (2 ^ 127)) then Err TooLarge
    else Ok (digits_value 10 text)

-- the first byte that is no digit
abbrev pub other_place : List ℕ → Option ℕ
other_place text = position (λ byte. not (is_ascii_digit byte)) text

-- what bytes say of which the first stands at place `at`: nothing, a byte that is no digit, or digits
abbrev pub digits_from : ℕ → List ℕ → Result ℕ NumberFault
digits_from at [] = Err Empty
digits_from at (b ∷ bs) =
    option_map_or (λ place. Err (NotDigit (at + place))) (other_place (b ∷ bs))
    (value_of_digits (b ∷ bs))

-- the number of a text
abbrev pub number : List ℕ → Result ℤ NumberFault
number text = result_map_both pos (λ fault. fault) (digits_from 0 text)

-- the number of a text that may have one `-` (byte 45) in front
abbrev pub signed_number : List ℕ → Result ℤ NumberFault
signed_number text =
    if slice_index text 0 == 45 then result_map_both (λ n. neg_ℤ (pos n)) (λ fault. fault)
    (digits_from 1 (drop 1 text)) else number text
