-- The text of a certificate is lines that each end with a line feed (byte 10). Line 1 is `cert`, a space and a minimum;
-- line 2 is `order` and, for each item, a space and the item; each later line is `prefix:utility:tokens`.
use Rattle.std.specs.Prelude.{
  ℕ,
  ◌==◌,
  nat_lt,
  ℤ,
  unsigned_abs,
  ◌&&◌,
  Bool,
  Option,
  None,
  Some,
  List,
  [],
  ◌∷◌,
  codes,
  length,
  take,
  drop,
  slice_index,
  if◌then◌else◌,
}
use Rattle.std.specs.List.{slice_split}
use Rattle.std.specs.Option.{option_map, option_and_then}
use Rattle.std.specs.Result.{result_ok}
use Rattle.std.specs.Str.{bytes_eq}
use Rattle.hu_kind.specs.Number.{number, signed_number}
use Rattle.hu_kind.specs.Token.{is_space}
use Rattle.hu_proof.specs.declared.token.Token.{Token}

-- what stands between the line feeds of a text: a line is a piece with another piece after it
abbrev pub pieces : List ℕ → List (List ℕ)
pieces text = slice_split (λ byte. byte == 10) text

-- whether digits begin with a `0` (byte 48) that isn't all of them
abbrev pub has_idle_zero : List ℕ → Bool
has_idle_zero text = (slice_index text 0 == 48) && nat_lt 1 (length text)

-- a number without leading zeros
abbrev pub plain_number : List ℕ → Option ℤ
plain_number text = if has_idle_zero text then None else result_ok (number text)

-- a signed number without leading zeros: after a `-` (byte 45) stands no `0`
abbrev pub plain_signed : List ℕ → Option ℤ
plain_signed text =
    if slice_index text 0 == 45
    then (if slice_index text 1 == 48 then None else result_ok (signed_number text))
    else plain_number text

-- a number of at most 2,147,483,647
abbrev pub item_in : Option ℤ → Option ℕ
item_in None = None
item_in (Some n) = if nat_lt 2147483647 (unsigned_abs n) then None else Some (unsigned_abs n)

-- an item
abbrev pub plain_item : List ℕ → Option ℕ
plain_item text = item_in (plain_number text)

-- one more, where all are there
abbrev pub and_more : {A : Type 0} → Option A → Option (List A) → Option (List A)
and_more None more = None
and_more (Some x) None = None
and_more (Some x) (Some xs) = Some (x ∷ xs)

-- what each of these texts says, where each says something
abbrev pub each : {A : Type 0} → (List ℕ → Option A) → List (List ℕ) → Option (List A)
each read [] = Some []
each read (text ∷ texts) = and_more (read text) (each read texts)

-- the words of a text that have one space between; a text without bytes has none
abbrev pub words : List ℕ → List (List ℕ)
words [] = []
words (b ∷ bs) = slice_split is_space (b ∷ bs)

-- what stands after a front, where the text begins with that
abbrev pub behind : List ℕ → List ℕ → Option (List ℕ)
behind front text =
    if bytes_eq (take (length front) text) front then Some (drop (length front) text) else None

-- the minimum that line 1 states
abbrev pub minimum_of : List ℕ → Option ℤ
minimum_of line = option_and_then plain_number (behind (codes "cert ") line)

-- items that each have a space in front
abbrev pub spaced_items : List ℕ → Option (List ℕ)
spaced_items [] = Some []
spaced_items (b ∷ bs) = if is_space b then each plain_item (slice_split is_space bs) else None

-- the items of line 2
abbrev pub order_of : List ℕ → Option (List ℕ)
order_of line = option_and_then spaced_items (behind (codes "order") line)

-- a token: an item, or an item, `=` (byte 61) and a bound
abbrev pub bounded : Option ℕ → Option ℤ → Option Token
bounded None bound = None
bounded (Some item) None = None
bounded (Some item) (Some bound) = Some (record { item = record { 0 = item }; bound = Some bound })

abbrev pub token_from : List (List ℕ) → Option Token
token_from (item ∷ []) = option_map (λ i. record { item = record { 0 = i }; bound = None }) (plain_item item)
token_from (item ∷ bound ∷ []) = bounded (plain_item item) (plain_number bound)
token_from _ = None

abbrev pub token_of : List ℕ → Option Token
token_of text = token_from (slice_split (λ byte. byte == 61) text)

-- what a later line says: the items of a prefix, its utility, and tokens
pub record Said : Type 0 where
  pub prefix : List ℕ
  pub utility : ℤ
  pub tokens : List Token

abbrev pub said_by : Option (List ℕ) → Option ℤ → Option (List Token) → Option Said
said_by (Some prefix) (Some utility) (Some tokens) =
    Some (record { prefix = prefix; utility = utility; tokens = tokens })
said_by _ _ _ = None

-- its three parts have a `:` (byte 58) between
abbrev pub said_in : List (List ℕ) → Option Said
said_in (prefix ∷ utility ∷ tokens ∷ []) =
    said_by (each plain_item (words prefix)) (plain_signed utility) (each token_of (words tokens))
said_in _ = None

abbrev pub said_of : List ℕ → Option Said
said_of line = said_in (slice_split (λ byte. byte == 58) line)
