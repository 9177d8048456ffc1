-- The faults of a certificate, line by line. A prefix is opened by a line of its own, and its line names by tokens the later
-- items with which it stands in some record. A token with a bound is cut; one without is opened by the lines that follow.
use Rattle.std.specs.Prelude.{
  ℕ,
  ◌+◌,
  ◌==◌,
  nat_lt,
  ℤ,
  int_le,
  Bool,
  not,
  ◌&&◌,
  Option,
  None,
  Some,
  is_none,
  List,
  [],
  ◌∷◌,
  ◌++◌,
  map,
  length,
  if◌then◌else◌,
}
use Rattle.std.specs.Bool.{then_some}
use Rattle.std.specs.List.{filter, list_any}
use Rattle.std.specs.Option.{option_map}
use Rattle.std.specs.Ordering.{nat_cmp, int_eq}
use Rattle.std.specs.Str.{bytes_eq}
use Rattle.hu_kind.specs.declared.item.Item.{Item}
use Rattle.hu_kind.specs.Database.{utility, items_of}
use Rattle.hu_kind.specs.First.{first_some}
use Rattle.hu_kind.specs.Order.{ranking}
use Rattle.hu_proof.specs.declared.fault.CheckFault.{CheckFault}
use Rattle.hu_proof.specs.declared.fault.CheckFault.TheVariants.{
  TooLong,
  NotOfForm,
  WrongMinimum,
  WrongOrder,
  WrongPrefix,
  WrongUtility,
  WrongChild,
  LeftOut,
  WrongBound,
  NotCut,
}
use Rattle.hu_proof.specs.declared.token.Token.{Token}
use Rattle.hu_proof.specs.Text.{Said, pieces, minimum_of, order_of, said_of}
use Rattle.hu_proof.specs.Bounds.{is_among, after, cut_bound, stands_with}

-- a prefix that is to be opened: its items, and those that stand in the order after its last one
pub record Node : Type 0 where
  pub prefix : List ℕ
  pub later : List ℕ

-- the empty prefix
abbrev pub root : List ℕ → Node
root order = record { prefix = []; later = order }

-- a prefix with a later item
abbrev pub grown : Node → ℕ → Node
grown node item = record { prefix = node.prefix ++ item ∷ []; later = after item node.later }

-- the prefixes that a line leaves to be opened: those of its tokens without a bound
abbrev pub children : Node → List Token → List Node
children node tokens = map (λ token. grown node token.item.0) (filter (λ token. is_none token.bound) tokens)

-- the first of some items for which a test holds
abbrev pub first_such : (ℕ → Bool) → List ℕ → Option ℕ
first_such test [] = None
first_such test (item ∷ items) = if test item then Some item else first_such test items

-- the first token whose item isn't a later one than the token before
abbrev pub wrong_child : List ℕ → List Token → Option ℕ
wrong_child later [] = None
wrong_child later (token ∷ tokens) =
    if is_among token.item.0 later then wrong_child
    (after token.item.0 later) tokens else Some token.item.0

-- the first later item that is no token and stands with the prefix in some record
abbrev pub left_out : List (List (ℕ × ℤ)) → Node → List Token → Option ℕ
left_out records node tokens =
    first_such (λ item. not (list_any (λ token. item == token.item.0) tokens)
    && stands_with records node.prefix item) node.later

-- the sum that a token's bound has to be
abbrev pub token_bound : List (List (ℕ × ℤ)) → Node → Token → ℤ
token_bound records node token =
    cut_bound records (grown node token.item.0).prefix (grown node token.item.0).later

-- a stated bound isn't the sum
abbrev pub wrong_bound_of : ℕ → Item → Option ℤ → ℤ → Option CheckFault
wrong_bound_of line item None sum = None
wrong_bound_of line item (Some stated) sum =
    then_some (not (int_eq stated sum)) (WrongBound line item stated sum)

abbrev pub wrong_bound : ℕ → List (List (ℕ × ℤ)) → Node → Token → Option CheckFault
wrong_bound line records node token =
    wrong_bound_of line token.item token.bound (token_bound records node token)

-- a stated bound reaches the minimum
abbrev pub not_cut_of : ℕ → ℤ → Item → Option ℤ → Option CheckFault
not_cut_of line least item None = None
not_cut_of line least item (Some bound) = then_some (int_le least bound) (NotCut line item bound)

abbrev pub not_cut : ℕ → ℤ → Token → Option CheckFault
not_cut line least token = not_cut_of line least token.item token.bound

-- what may be wrong with what a line says of a prefix, in order
abbrev pub prefix_fault : ℕ → Node → Said → Option CheckFault
prefix_fault line node said = then_some (not (bytes_eq said.prefix node.prefix)) (WrongPrefix line)

abbrev pub utility_fault : ℕ → ℤ → ℤ → Option CheckFault
utility_fault line stated sum = then_some (not (int_eq stated sum)) (WrongUtility line stated sum)

abbrev pub child_fault : ℕ → Node → Said → Option CheckFault
child_fault line node said =
    option_map (λ item. WrongChild line (record { 0 = item })) (wrong_child node.later said.tokens)

abbrev pub left_fault : List (List (ℕ × ℤ)) → ℕ → Node → Said → Option CheckFault
left_fault records line node said =
    option_map (λ item. LeftOut line (record { 0 = item })) (left_out records node said.tokens)

abbrev pub bound_fault : List (List (ℕ × ℤ)) → ℕ → Node → Said → Option CheckFault
bound_fault records line node said = first_some (map (wrong_bound line records node) said.tokens)

abbrev pub cut_fault : ℤ → ℕ → Said → Option CheckFault
cut_fault least line said = first_some (map (not_cut line least) said.tokens)

abbrev pub faults_of : List (List (ℕ × ℤ)) → ℤ → ℕ → Node → Said → List (Option CheckFault)
faults_of records least line node said =
    prefix_fault line node said
    ∷ utility_fault line said.utility (utility records node.prefix)
    ∷ child_fault line node said
    ∷ left_fault records line node said
    ∷ bound_fault records line node said
    ∷ cut_fault least line said
    ∷ []

-- the first fault of the line of a prefix
abbrev pub line_fault : List (List (ℕ × ℤ)) → ℤ → ℕ → Node → Option Said → Option CheckFault
line_fault records least line node None = Some (NotOfForm line)
line_fault records least line node (Some said) = first_some (faults_of records least line node said)

-- the prefixes that are to be opened after a line
abbrev pub opened_by : Node → Option Said → List Node
opened_by node None = []
opened_by node (Some said) = children node said.tokens

-- the text has come to its last piece: nothing is to be opened any more, and nothing stands after the last line feed
abbrev pub end_fault : ℕ → List Node → List ℕ → Option CheckFault
end_fault line [] [] = None
end_fault line _ _ = Some (NotOfForm line)

-- the first fault of the lines of prefixes from a number on, where these prefixes are to be opened: after the line of a
-- prefix come the lines of its children, each with all below it, before what was to be opened already
abbrev pub walk : List (List (ℕ × ℤ)) → ℤ → ℕ → List Node → List (List ℕ) → Option CheckFault
walk records least line nodes [] = Some (NotOfForm line)
walk records least line nodes (piece ∷ []) = end_fault line nodes piece
walk records least line [] (piece ∷ next ∷ rest) = Some (NotOfForm line)
walk records least line (node ∷ nodes) (piece ∷ next ∷ rest) = first_some (
    line_fault records least line node (said_of piece)
    ∷ walk records least (line + 1) (opened_by node (said_of piece) ++ nodes) (next ∷ rest)
    ∷ [])

-- whether an order has just the items that occur, each once
abbrev pub is_order : List (List (ℕ × ℤ)) → List ℕ → Bool
is_order records order =
    bytes_eq (ranking nat_cmp order) (items_of records)
    && (length order == length (items_of records))

-- the first fault from line 2 on
abbrev pub order_fault : List (List (ℕ × ℤ)) → ℤ → Option (List ℕ) → List (List ℕ) → Option CheckFault
order_fault records least None rest = Some (NotOfForm 2)
order_fault records least (Some order) rest =
    if is_order records order then walk records least 3 (root order ∷ []) rest else Some WrongOrder

abbrev pub from_order : List (List (ℕ × ℤ)) → ℤ → List (List ℕ) → Option CheckFault
from_order records least (line ∷ next ∷ rest) = order_fault records least (order_of line) (next ∷ rest)
from_order records least _ = Some (NotOfForm 2)

-- the first fault from line 1 on
abbrev pub minimum_fault : List (List (ℕ × ℤ)) → ℤ → Option ℤ → List (List ℕ) → Option CheckFault
minimum_fault records least None rest = Some (NotOfForm 1)
minimum_fault records least (Some stated) rest =
    if int_eq stated least then from_order records least rest else Some (WrongMinimum stated)

abbrev pub from_minimum : List (List (ℕ × ℤ)) → ℤ → List (List ℕ) → Option CheckFault
from_minimum records least (line ∷ next ∷ rest) = minimum_fault records least (minimum_of line) (next ∷ rest)
from_minimum records least _ = Some (NotOfForm 1)

-- the first fault of a text; one that has none is accepted
abbrev pub first_fault : List (List (ℕ × ℤ)) → ℤ → List ℕ → Option CheckFault
first_fault records least text =
    if nat_lt 268435456 (length text) then Some TooLong else from_minimum records least
    (pieces text)
