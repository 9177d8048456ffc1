-- The places of a pattern in a sequence: the cells at which its occurrences end, each with the best utility of those
-- that end there and with all values after it. After the utility chains of HUS-Span (Wang, Huang and Chen, 2016).
use Rattle.std.specs.Prelude.{
  ℕ,
  suc,
  ◌==◌,
  ℤ,
  pos,
  ◌+ℤ◌,
  Option,
  None,
  option_map,
  option_to_list,
  List,
  [],
  ◌∷◌,
  ◌++◌,
  take,
  drop,
  slice_index_or,
  if◌then◌else◌,
}
use Rattle.hu_kind.specs.Record.{holds, values_of, total}
use Rattle.hu_kind.specs.Sequence.{best_utility}
use Rattle.hu_chain.specs.declared.place.Place.{Place}
use Rattle.hu_chain.specs.Pattern.{last_itemset, last_item, earlier}

-- an element of a sequence, by its number
abbrev pub element_at : List (List (ℕ × ℤ)) → ℕ → List (ℕ × ℤ)
element_at elements e = slice_index_or elements e []

-- the sum of all values of elements
abbrev pub totals : List (List (ℕ × ℤ)) → ℤ
totals [] = pos 0
totals (cells ∷ elements) = total cells +ℤ totals elements

-- the number of an item's cell in an element that has the item
abbrev pub cell_of : ℕ → List (ℕ × ℤ) → ℕ
cell_of item [] = 0
cell_of item (cell ∷ cells) = if item == cell.0 then 0 else suc (cell_of item cells)

-- the best utility of a pattern that ends in an element: of its earlier itemsets in the elements before, and the values
-- of its last one here; none where that doesn't lie here
abbrev pub best_at : List (List ℕ) → List (List (ℕ × ℤ)) → ℕ → Option ℤ
best_at pattern elements e =
    if holds (last_itemset pattern) (element_at elements e)
    then option_map (λ u. u +ℤ values_of (last_itemset pattern) (element_at elements e))
    (best_utility (earlier pattern) (take e elements))
    else None

-- the sum of all values after a cell of an element, there and in the later elements
abbrev pub rest_at : List (List (ℕ × ℤ)) → ℕ → ℕ → ℤ
rest_at elements e c = total (drop (suc c) (element_at elements e)) +ℤ totals (drop (suc e) elements)

-- the place at which a pattern ends in an element
abbrev pub place_at : List (List ℕ) → List (List (ℕ × ℤ)) → ℕ → Option Place
place_at pattern elements e = option_map
    (λ u. record {
      element = e;
      cell = cell_of (last_item pattern) (element_at elements e);
      best = u;
      rest = rest_at elements e (cell_of (last_item pattern) (element_at elements e));
    })
    (best_at pattern elements e)

-- the places of a pattern in those elements of a sequence that are left, of which the first has a number
abbrev pub places_from : List (List ℕ) → List (List (ℕ × ℤ)) → ℕ → List (List (ℕ × ℤ)) → List Place
places_from pattern elements e [] = []
places_from pattern elements e (cells ∷ left) =
    option_to_list (place_at pattern elements e) ++ places_from pattern elements (suc e) left

-- the chain of a pattern in a sequence: its places in order
abbrev pub chain_of : List (List ℕ) → List (List (ℕ × ℤ)) → List Place
chain_of pattern elements = places_from pattern elements 0 elements
