-- The cells of tokens, one after another, and cells in order.
use Rattle.std.proofs.Common.{◌≡◌, ℕ, ◌+◌, ◌<◌, ◌≤◌, ℤ, Option, None, Some, List, [], ◌∷◌, ◌++◌, map, sym, ap, ◌∙◌, length, take, get_or, arith, suc, zero}
use Rattle.std.specs.List.{All, AllAdjacentBelow, AllZip, cons_option, slice_split}
use Rattle.std.specs.Option.{option_map}
use Rattle.std.specs.List.Sorted.{IsPermutation}
use Rattle.std.proofs.lemmas.List.{append-nil, map-append, take_more, get_or-map, length-map}
use Rattle.std.proofs.lemmas.List.Elements.{filter_map-append, AllZip-push}
use Rattle.std.proofs.lemmas.List.Sorted.{All-permutation, length_permutation}
use Rattle.hu_kind.specs.declared.item.Cell.{Cell}
use Rattle.hu_kind.specs.Cell.{pair_of, pairs_of}
use Rattle.hu_kind.specs.Cells.{twice}
use Rattle.hu_kind.specs.Record.{IsItemset, items_in}
use Rattle.hu_kind.proofs.lemmas.RecordLemmas.{IsItemset-from_cells}
use Rattle.hu_kind.specs.First.{first_some}
use Rattle.hu_seq.specs.declared.fault.SeqFault.{SeqFault}
use Rattle.hu_seq.specs.declared.token.Token.{Token}
use Rattle.hu_seq.specs.Token.{is_itemset_end, pair_in}
use Rattle.hu_seq.specs.Reading.{cells, duplicate_item, itemsets}
use Rattle.hu_seq.specs.Itemset.{IsOrdered}

cells-more : (told : List Token) (i : ℕ) (d : Token) → i < length told → cells (take (i + 1) told)
    ≡ cells (take i told) ++ cons_option (pair_in (get_or told i d)) []
cells-more told i d within = ap cells (take_more told i d within) ∙ filter_map-append pair_in (take i told) (get_or told i d ∷ [])

-- one more token, which is a cell
pub cells-push : (items : List Cell) (told : List Token) (i : ℕ) (d : Token) (cell : Cell) → i < length told → Some (pair_of cell) ≡ pair_in (get_or told i d)
    → pairs_of items ≡ cells (take i told) → pairs_of (items ++ cell ∷ []) ≡ cells (take (i + 1) told)
cells-push items told i d cell within is so_far =
    map-append pair_of items (cell ∷ [])
    ∙ ap (λ front. front ++ pair_of cell ∷ []) so_far
    ∙ ap (λ last. cells (take i told) ++ cons_option last []) is
    ∙ sym (cells-more told i d within)

-- one more token, which is none
pub cells-skip : (items : List Cell) (told : List Token) (i : ℕ) (d : Token) → i < length told → None ≡ pair_in (get_or told i d)
    → pairs_of items ≡ cells (take i told) → pairs_of items ≡ cells (take (i + 1) told)
cells-skip items told i d within is so_far =
    so_far
    ∙ sym (append-nil (cells (take i told)))
    ∙ ap (λ last. cells (take i told) ++ cons_option last []) is
    ∙ sym (cells-more told i d within)

-- cells in order are an itemset
pub IsItemset-ordered : (read ordered : List Cell) → IsPermutation read ordered → AllAdjacentBelow (λ a b. a.item.0 < b.item.0) ordered (length ordered)
    → 0 < length (pairs_of read) → All (λ cell. cell.item.0 ≤ 2147483647) read → IsItemset (pairs_of ordered)
IsItemset-ordered read ordered same ascending some in_range = IsItemset-from_cells ordered (record {
  some = omega (arith, length-map read pair_of, length_permutation read ordered same);
  ascending = ascending;
  in_range = All-permutation (λ cell. cell.item.0 ≤ 2147483647) read ordered same in_range;
})

set_at : (told : List Token) (n : ℕ) (part : List Token) → n < length (slice_split is_itemset_end told) → part ≡ get_or (slice_split is_itemset_end told) n part
    → get_or (itemsets told) n (cells part) ≡ cells part
set_at told n part within is = get_or-map cells (slice_split is_itemset_end told) n part (cells part) within ∙ ap cells (sym is)

length-itemsets : (told : List Token) → length (itemsets told) ≡ length (slice_split is_itemset_end told)
length-itemsets told = length-map (slice_split is_itemset_end told) cells

-- one more itemset
pub IsOrdered-push : (told : List Token) (n : ℕ) (part : List Token) (elements : List (List (ℕ × ℤ))) (element : List (ℕ × ℤ))
    → n < length (slice_split is_itemset_end told) → part ≡ get_or (slice_split is_itemset_end told) n part
    → AllZip IsOrdered (take n (itemsets told)) elements → IsOrdered (cells part) element
    → AllZip IsOrdered (take (n + 1) (itemsets told)) (elements ++ element ∷ [])
IsOrdered-push told n part elements element within is so_far this =
    let more : take (n + 1) (itemsets told) ≡ take n (itemsets told) ++ get_or (itemsets told) n (cells part) ∷ [] =
    take_more (itemsets told) n (cells part) (omega (arith, length-itemsets told)) in
    rw (more, set_at told n part within is) (AllZip-push IsOrdered (take n (itemsets told)) elements (cells part) element so_far this)

first_alone : (f : ℕ → SeqFault) (o : Option ℕ) (os : List (Option ℕ)) (fault : SeqFault)
    → option_map f (first_some (o ∷ [])) ≡ Some fault → option_map f (first_some (o ∷ os)) ≡ Some fault
first_alone f None os fault h = cc
first_alone f (Some x) os fault h = h

-- an item stands twice in an itemset, and none in those before it
duplicate_at : (sets : List (List (ℕ × ℤ))) (n : ℕ) (elements : List (List (ℕ × ℤ))) (set : List (ℕ × ℤ)) (fault : SeqFault)
    → n < length sets → get_or sets n set ≡ set → AllZip IsOrdered (take n sets) elements → duplicate_item (set ∷ [])
    ≡ Some fault → duplicate_item sets ≡ Some fault
duplicate_at [] n elements set fault within here so_far this = absurd (omega arith)
duplicate_at (s ∷ ss) zero elements set fault within here so_far this =
    let same : duplicate_item (s ∷ []) ≡ Some fault = rw here this in
    first_alone _ (twice (items_in s)) (map (λ set. twice (items_in set)) ss) fault same
duplicate_at (s ∷ ss) (suc m) [] set fault within here so_far this = absurd so_far
duplicate_at (s ∷ ss) (suc m) (e ∷ es) set fault within here so_far this =
    rw so_far.0.once (duplicate_at ss m es set fault (omega arith) here so_far.1 this)

pub duplicate_item-at : (told : List Token) (n : ℕ) (part : List Token) (elements : List (List (ℕ × ℤ))) (fault : SeqFault)
    → n < length (slice_split is_itemset_end told) → part ≡ get_or (slice_split is_itemset_end told) n part
    → AllZip IsOrdered (take n (itemsets told)) elements → duplicate_item (cells part ∷ []) ≡ Some fault → duplicate_item (itemsets told) ≡ Some fault
duplicate_item-at told n part elements fault within is so_far this =
    duplicate_at (itemsets told) n elements (cells part) fault (omega (arith, length-itemsets told)) (set_at told n part within is) so_far this
