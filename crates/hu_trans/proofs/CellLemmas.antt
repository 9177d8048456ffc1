-- Cells made of items with values beside them.
use Rattle.std.proofs.Common.{◌≡◌, ℕ, ◌<◌, ◌≤◌, ◌^◌, ℤ, List, [], ◌∷◌, ◌++◌, length, zip, get_or, refl, sym, ap, ◌∙◌, arith}
use Rattle.std.specs.List.{All, AllAdjacentBelow}
use Rattle.std.specs.List.Sorted.{IsPermutation}
use Rattle.std.proofs.lemmas.List.Sorted.{All-permutation, length_permutation, sum_by-IsPermutation}
use Rattle.std.proofs.lemmas.Slice.Zip.{firsts-zip}
use Rattle.hu_kind.specs.declared.item.Cell.{Cell}
use Rattle.hu_kind.specs.Cell.{pair_of, pairs_of, absolute_value}
use Rattle.hu_kind.specs.Cells.{twice}
use Rattle.hu_kind.specs.Record.{items_in, absolute_of, IsRecord}
use Rattle.hu_kind.proofs.lemmas.CellsLemmas.{item_at, length-items}
use Rattle.hu_kind.proofs.lemmas.RecordLemmas.{IsRecord-from_cells, absolute_of-pairs_of}
use Rattle.hu_trans.proofs.JudgedLemmas.{AreFine}

-- one more cell in front of what is left
pub pairs_of-push : (cells : List Cell) (cell : Cell) (rest : List (ℕ × ℤ)) → pairs_of (cells ++ cell ∷ []) ++ rest ≡ pairs_of cells ++ pair_of cell ∷ rest
pairs_of-push [] cell rest = refl
pairs_of-push (c ∷ cs) cell rest = ap (λ pairs. pair_of c ∷ pairs) (pairs_of-push cs cell rest)

items-zip : (cells : List Cell) (items : List ℕ) (values : List ℤ) → pairs_of cells ≡ zip items values → length items
    ≡ length values → items_in (pairs_of cells) ≡ items
items-zip cells items values are same = ap items_in are ∙ firsts-zip items values (sym same)

pub twice-zip : (cells : List Cell) (items : List ℕ) (values : List ℤ) → pairs_of cells ≡ zip items values → length items ≡ length values
    → twice (items_in (pairs_of cells)) ≡ twice items
twice-zip cells items values are same = ap twice (items-zip cells items values are same)

-- the order of cells doesn't matter for their absolute sum
pub absolute_of-permutation : (cells ordered : List Cell) → IsPermutation cells ordered → absolute_of (pairs_of ordered) ≡ absolute_of (pairs_of cells)
absolute_of-permutation cells ordered same =
    absolute_of-pairs_of ordered ∙ sum_by-IsPermutation absolute_value cells ordered same ∙ sym (absolute_of-pairs_of cells)

-- cells of such items keep the rules of a record once they are in order
pub IsRecord-ordered : (cells ordered : List Cell) (items : List ℕ) (values : List ℤ) → pairs_of cells ≡ zip items values → AreFine items values
    → IsPermutation cells ordered → AllAdjacentBelow (λ a b. a.item.0 < b.item.0) ordered (length ordered) → absolute_of (pairs_of cells) < 2 ^ 127
    → IsRecord (pairs_of ordered)
IsRecord-ordered cells ordered items values are fine same ascending small =
    let told : items_in (pairs_of cells) ≡ items = items-zip cells items values are fine.same in
    let count : length cells ≡ length items = sym (length-items cells) ∙ ap length told in
    let whole : length ordered ≡ length cells = length_permutation cells ordered same in
    let in_range : All (λ cell. cell.item.0 ≤ 2147483647) cells =
    λ k d within. omega (arith, item_at cells k 0 d within, ap (λ xs. get_or xs k 0) told, fine.in_range k 0 (omega arith)) in
    IsRecord-from_cells ordered (record {
      itemset = record {
        some = omega (arith, fine.some);
        ascending = ascending;
        in_range = All-permutation (λ cell. cell.item.0 ≤ 2147483647) cells ordered same in_range;
      };
      few = omega (arith, fine.few);
      sum_fits = omega (arith, sum_by-IsPermutation absolute_value cells ordered same, absolute_of-pairs_of cells);
    })
