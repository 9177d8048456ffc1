-- The text of a certificate that a base itself makes. Its order is all items that occur by what the records gain that hold
-- them, then by item; a prefix's tokens are just the later items that stand with it in some record, and a token is cut
-- where the most that the prefix may earn with its item is below the minimum.
use Rattle.std.specs.Prelude.{
  ℕ,
  ℤ,
  Bool,
  int_lt,
  int_le,
  ◌&&◌,
  List,
  [],
  ◌∷◌,
  ◌++◌,
  map,
  codes,
  decimal,
  if◌then◌else◌,
}
use Rattle.std.specs.Fmt.{signed_decimal}
use Rattle.std.specs.List.{flat_map, join_with_byte}
use Rattle.hu_kind.specs.Database.{utility, items_of}
use Rattle.hu_kind.specs.Order.{ranking}
use Rattle.hu_proof.specs.Bounds.{cut_bound, stands_with}
use Rattle.hu_totals.specs.Ranked.{by_twu}

-- the items that occur, by what the records gain that hold them, then by item
abbrev pub certificate_order : List (List (ℕ × ℤ)) → List ℕ
certificate_order records = ranking (by_twu records) (items_of records)

-- the most that a prefix may earn with an item and with these later ones
abbrev pub child_bound : List (List (ℕ × ℤ)) → List ℕ → ℕ → List ℕ → ℤ
child_bound records prefix item later = cut_bound records (prefix ++ item ∷ []) later

-- of the later items those that stand with a prefix in some record, each with that bound
abbrev pub children_of : List (List (ℕ × ℤ)) → List ℕ → List ℕ → List (ℕ × ℤ)
children_of records prefix [] = []
children_of records prefix (item ∷ later) =
    (if stands_with records prefix item then
    (item, child_bound records prefix item later) ∷ [] else [])
    ++ children_of records prefix later

-- what is written of a bound: `=` (byte 61) and the bound where it is below the minimum
abbrev pub bound_text : ℤ → ℤ → List ℕ
bound_text least bound = if int_lt bound least then 61 ∷ signed_decimal bound else []

-- a token
abbrev pub token_text : ℤ → ℕ × ℤ → List ℕ
token_text least child = decimal child.0 ++ bound_text least child.1

-- the items of a prefix with one space (byte 32) between
abbrev pub prefix_text : List ℕ → List ℕ
prefix_text prefix = join_with_byte 32 (map decimal prefix)

-- tokens with one space between
abbrev pub tokens_text : ℤ → List (ℕ × ℤ) → List ℕ
tokens_text least children = join_with_byte 32 (map (token_text least) children)

-- a line of three parts with `:` (byte 58) between: the text of items, what they earn, and tokens
abbrev pub line_text : ℤ → List ℕ → ℤ → List (ℕ × ℤ) → List ℕ
line_text least items earned children = items ++ 58 ∷ signed_decimal earned ++ 58 ∷ tokens_text least children

-- the line of a prefix that these items may follow
abbrev pub line_of : List (List (ℕ × ℤ)) → ℤ → List ℕ → List ℕ → List ℕ
line_of records least prefix later =
    line_text least (prefix_text prefix) (utility records prefix) (children_of records prefix later)

-- whether a prefix with an item more has a line of its own: they stand in some record, and the bound reaches the minimum
abbrev pub is_opened : List (List (ℕ × ℤ)) → ℤ → List ℕ → ℕ → List ℕ → Bool
is_opened records least prefix item later = stands_with records prefix item && int_le least
    (child_bound records prefix item later)

-- the lines below a prefix
abbrev pub lines_below : List (List (ℕ × ℤ)) → ℤ → List ℕ → List ℕ → List (List ℕ)
lines_below records least prefix [] = []
lines_below records least prefix (item ∷ later) =
    (if is_opened records least prefix item later
    then line_of records least (prefix ++ item ∷ []) later ∷ lines_below records least
    (prefix ++ item ∷ []) later
    else [])
    ++ lines_below records least prefix later

-- line 1: the minimum
abbrev pub minimum_line : ℤ → List ℕ
minimum_line least = codes "cert " ++ signed_decimal least

-- items that each have a space in front
abbrev pub spaced : List ℕ → List ℕ
spaced items = flat_map (λ item. 32 ∷ decimal item) items

-- line 2: the order
abbrev pub order_line : List ℕ → List ℕ
order_line order = codes "order" ++ spaced order

-- the lines of prefixes: that of the empty one, and those below it
abbrev pub prefix_lines : List (List (ℕ × ℤ)) → ℤ → List (List ℕ)
prefix_lines records least =
    line_of records least [] (certificate_order records) ∷ lines_below records least []
    (certificate_order records)

-- lines that each end with a line feed (byte 10)
abbrev pub lines_text : List (List ℕ) → List ℕ
lines_text lines = flat_map (λ line. line ++ 10 ∷ []) lines

-- the text of a certificate
abbrev pub certificate_text : List (List (ℕ × ℤ)) → ℤ → List ℕ
certificate_text records least =
    lines_text (minimum_line least ∷ order_line
    (certificate_order records) ∷ prefix_lines records least)
