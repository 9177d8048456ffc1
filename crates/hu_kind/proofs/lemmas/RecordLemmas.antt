-- The rules of a record, of its cells and of their pairs.
use Rattle.std.proofs.Common.{◌≡◌, ℕ, ◌+◌, ◌<◌, ◌≤◌, ℤ, pos, unsigned_abs, Bool, ◌||◌, List, [], ◌∷◌, map, refl, length, get_or, ap, arith, sum_by}
use Rattle.std.specs.List.{list_any}
use Rattle.std.proofs.lemmas.List.{get_or-map, length-map}
use Rattle.std.proofs.lemmas.List.Elements.{All-map}
use Rattle.std.proofs.lemmas.List.Folds.{fold-map}
use Rattle.hu_kind.specs.declared.item.Cell.{Cell}
use Rattle.hu_kind.specs.Cell.{pairs_of, pair_of, absolute_value, AreItemset, AreRecord}
use Rattle.hu_kind.specs.Record.{IsItemset, IsRecord, absolute_of}

pub list_any-map : {X Y : Type 0} (test : Y → Bool) (f : X → Y) (xs : List X) → list_any test (map f xs) ≡ list_any (λ x. test (f x)) xs
list_any-map test f [] = refl
list_any-map test f (x ∷ xs) = ap (λ b. test (f x) || b) (list_any-map test f xs)

-- a cell that stands past the end
no_cell : Cell
no_cell = record { item = record { 0 = 0 }; value = pos 0 }

item_at-pairs_of : (cells : List Cell) (k : ℕ) (d : ℕ × ℤ) → k < length cells → (get_or (pairs_of cells) k d).0 ≡ (get_or cells k no_cell).item.0
item_at-pairs_of cells k d within = ap (λ pair. pair.0) (get_or-map pair_of cells k no_cell d within)

item_of_pair : (cells : List Cell) (k : ℕ) (d : Cell) → k < length cells → (get_or (pairs_of cells) k (0, pos 0)).0 ≡ (get_or cells k d).item.0
item_of_pair cells k d within = ap (λ pair. pair.0) (get_or-map pair_of cells k d (0, pos 0) within)

pub absolute_of-pairs_of : (cells : List Cell) → absolute_of (pairs_of cells) ≡ sum_by absolute_value cells
absolute_of-pairs_of cells = fold-map (λ sum pair. sum + unsigned_abs pair.1) pair_of 0 cells

pub IsItemset-from_cells : (cells : List Cell) → AreItemset cells → IsItemset (pairs_of cells)
IsItemset-from_cells cells h =
    let same : length (pairs_of cells) ≡ length cells = length-map cells pair_of in
    record {
      some = omega arith;
      ascending = λ k d within. omega (
        arith,
        item_at-pairs_of cells k d (omega arith),
        item_at-pairs_of cells (k + 1) d (omega arith),
        h.ascending k no_cell (omega arith),
      );
      in_range = All-map (λ pair. pair.0 ≤ 2147483647) pair_of cells h.in_range;
    }

pub IsItemset-to_cells : (cells : List Cell) → IsItemset (pairs_of cells) → AreItemset cells
IsItemset-to_cells cells h =
    let same : length (pairs_of cells) ≡ length cells = length-map cells pair_of in
    record {
      some = omega arith;
      ascending = λ k d within. omega (
        arith,
        item_of_pair cells k d (omega arith),
        item_of_pair cells (k + 1) d (omega arith),
        h.ascending k (0, pos 0) (omega arith),
      );
      in_range = λ k d within. omega (arith, item_of_pair cells k d within, h.in_range k (0, pos 0) (omega arith));
    }

pub IsRecord-from_cells : (cells : List Cell) → AreRecord cells → IsRecord (pairs_of cells)
IsRecord-from_cells cells h = record {
  itemset = IsItemset-from_cells cells h.itemset;
  few = omega (arith, length-map cells pair_of, h.few);
  sum_fits = omega (arith, absolute_of-pairs_of cells, h.sum_fits);
}

pub IsRecord-to_cells : (cells : List Cell) → IsRecord (pairs_of cells) → AreRecord cells
IsRecord-to_cells cells h = record {
  itemset = IsItemset-to_cells cells h.itemset;
  few = omega (arith, length-map cells pair_of, h.few);
  sum_fits = omega (arith, absolute_of-pairs_of cells, h.sum_fits);
}
