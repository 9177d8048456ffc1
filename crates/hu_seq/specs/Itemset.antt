-- One itemset of a line.
use Rattle.std.specs.Prelude.{◌≡◌, ℕ, ◌<◌, ℤ, false, None, List, length}
use Rattle.std.specs.List.{All}
use Rattle.std.specs.List.Sorted.{IsPermutation}
use Rattle.hu_kind.specs.Cells.{by_item, twice}
use Rattle.hu_kind.specs.Record.{items_in, IsItemset}
use Rattle.hu_seq.specs.declared.token.Token.{Token}
use Rattle.hu_seq.specs.Token.{is_out_of_range}
use Rattle.hu_seq.specs.Reading.{cells}

-- tokens that may make an itemset: a cell stands among them, and each item is in its range
pub record IsSound (told : List Token) : Type 0 where
  pub some : 0 < length (cells told)
  pub in_range : All (λ token. is_out_of_range token ≡ false) told

-- an element has just the cells of an itemset, by item, none of the items stands twice, and it keeps the rules of an itemset
pub record IsOrdered (set element : List (ℕ × ℤ)) : Type 0 where
  pub value : element ≡ by_item set
  pub permutation : IsPermutation set element
  pub once : twice (items_in set) ≡ None
  pub rules : IsItemset element
