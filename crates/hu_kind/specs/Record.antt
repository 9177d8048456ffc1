-- A record as a list of pairs (item, value) with the items ascending, and what a set of items earns in it.
-- After HUI-Miner (Liu and Qu, 2012).
use Rattle.std.specs.Prelude.{
  ℕ,
  ◌^◌,
  ◌<◌,
  ◌≤◌,
  ◌==◌,
  ℤ,
  pos,
  negsuc,
  ◌+ℤ◌,
  unsigned_abs,
  int_lt,
  Bool,
  List,
  [],
  ◌∷◌,
  map,
  length,
  if◌then◌else◌,
}
use Rattle.std.specs.List.{All, AllAdjacentBelow, list_all, list_any, sum_by}

-- the items of a record
abbrev pub items_in : List (ℕ × ℤ) → List ℕ
items_in cells = map (λ cell. cell.0) cells

-- the value of an item in a record, 0 where it isn't there
abbrev pub value_of : ℕ → List (ℕ × ℤ) → ℤ
value_of item [] = pos 0
value_of item (cell ∷ cells) = if item == cell.0 then cell.1 else value_of item cells

-- whether an item stands in a record
abbrev pub has : ℕ → List (ℕ × ℤ) → Bool
has item cells = list_any (λ cell. item == cell.0) cells

-- whether every item of a set stands in a record
abbrev pub holds : List ℕ → List (ℕ × ℤ) → Bool
holds items cells = list_all (λ item. has item cells) items

-- the sum of the values of a set's items in a record
abbrev pub values_of : List ℕ → List (ℕ × ℤ) → ℤ
values_of [] cells = pos 0
values_of (item ∷ items) cells = value_of item cells +ℤ values_of items cells

-- the utility of a set in a record: the sum of its values where the record holds it, else 0
abbrev pub utility_in : List ℕ → List (ℕ × ℤ) → ℤ
utility_in items cells = if holds items cells then values_of items cells else pos 0

-- a value where it is above 0, else 0
abbrev pub positive_part : ℤ → ℤ
positive_part (pos n) = pos n
positive_part (negsuc n) = pos 0

-- the sum of a record's values above 0
abbrev pub gain : List (ℕ × ℤ) → ℤ
gain [] = pos 0
gain (cell ∷ cells) = positive_part cell.1 +ℤ gain cells

-- the plain sum of a record's values
abbrev pub total : List (ℕ × ℤ) → ℤ
total [] = pos 0
total (cell ∷ cells) = cell.1 +ℤ total cells

-- the sum of the absolute values of a record's cells
abbrev pub absolute_of : List (ℕ × ℤ) → ℕ
absolute_of cells = sum_by (λ cell. unsigned_abs cell.1) cells

-- whether some value is below 0
abbrev pub any_negative : List (ℕ × ℤ) → Bool
any_negative cells = list_any (λ cell. int_lt cell.1 (pos 0)) cells

-- the rules of a set of cells: there is one, the items ascend strictly, and each is in its range
pub record IsItemset (cells : List (ℕ × ℤ)) : Type 0 where
  pub some : 0 < length cells
  pub ascending : AllAdjacentBelow (λ a b. a.0 < b.0) cells (length cells)
  pub in_range : All (λ cell. cell.0 ≤ 2147483647) cells

-- the rules of a record: an itemset of at most 4,096 cells whose absolute values sum to at most 2 ^ 127 - 1
pub record IsRecord (cells : List (ℕ × ℤ)) : Type 0 where
  pub itemset : IsItemset cells
  pub few : length cells ≤ 4096
  pub sum_fits : absolute_of cells < 2 ^ 127
