-- The cells of a row, by their places.
use Rattle.std.proofs.Common.{◌≡◌, ℕ, zero, suc, ◌<◌, ◌≤◌, ◌+◌, true, false, eqb, ℤ, ◌+ℤ◌, unsigned_abs, List, [], ◌∷◌, length, get_or, drop, take, refl, sym}
use Rattle.std.proofs.Common.{arith, add-one, ◌-◌, length-drop}
use Rattle.std.proofs.lemmas.List.{take_all}
use Rattle.std.specs.List.Sorted.{IsPartitionPoint}
use Rattle.std.proofs.lemmas.Bool.{eq-eqb, ne_eqb}
use Rattle.std.proofs.lemmas.List.Sums.{sum_by-cons}
use Rattle.hu_kind.specs.declared.item.Cell.{Cell}
use Rattle.hu_kind.specs.Cell.{pairs_of, pair_of}
use Rattle.hu_kind.specs.Record.{items_in, absolute_of}
use Rattle.hu_kind.specs.Order.{Ascend}
use Rattle.hu_kind.proofs.lemmas.CellPlaces.{no_cell-past, above-at}
use Rattle.hu_plain.specs.Row.{Cells, grown_row}

-- the row grown by the item at a place
pub grown_row-at : (item : ℕ) (sum : ℤ) (cells : List Cell) (k : ℕ) (d : Cell) → Ascend (items_in (pairs_of cells)) → k < length cells
    → (get_or cells k d).item.0 ≡ item
    → grown_row item sum (pairs_of cells) ≡ (sum +ℤ (get_or cells k d).value, pairs_of (drop (suc k) cells)) ∷ []
grown_row-at item sum [] k d up within here = absurd (omega arith)
grown_row-at item sum (cell ∷ cells) zero d up within here =
    let yes : eqb item cell.item.0 ≡ true = eq-eqb item cell.item.0 (sym here) in
    rw yes refl
grown_row-at item sum (cell ∷ cells) (suc k) d up within here =
    let past = above-at cell.item.0 cells k d up.0 (omega arith) in
    let no : eqb item cell.item.0 ≡ false = ne_eqb item cell.item.0 (λ e. absurd (omega arith)) in
    rw no (grown_row-at item sum cells k d up.1 (omega arith) here)

-- no row where no cell has the item
pub grown_row-none : (item : ℕ) (sum : ℤ) (cells : List Cell) → ((k : ℕ) (d : Cell) → k < length cells → (get_or cells k d).item.0 ≡ item → ⊥)
    → grown_row item sum (pairs_of cells) ≡ []
grown_row-none item sum [] absent = refl
grown_row-none item sum (cell ∷ cells) absent =
    let no : eqb item cell.item.0 ≡ false = ne_eqb item cell.item.0 (λ e. absent 0 cell (omega arith) (sym e)) in
    rw no (grown_row-none item sum cells (λ k d within e. absent (suc k) d (omega arith) e))

-- as where the place of the item is past the end, or another item's
pub grown_row-past : (item : ℕ) (sum : ℤ) (cells : List Cell) (place : ℕ) → Ascend (items_in (pairs_of cells))
    → IsPartitionPoint (λ cell. cell.item.0 < item) (λ cell. item ≤ cell.item.0) cells place
    → ((d : Cell) → place < length cells → (get_or cells place d).item.0 ≡ item → ⊥)
    → grown_row item sum (pairs_of cells) ≡ []
grown_row-past item sum cells place up split other = grown_row-none item sum cells (no_cell-past item cells place up split other)

-- a cell's value is within the sum
pub absolute_of-at : (cells : List Cell) (k : ℕ) (d : Cell) → k < length cells
    → unsigned_abs (get_or cells k d).value + absolute_of (pairs_of (drop (suc k) cells)) ≤ absolute_of (pairs_of cells)
absolute_of-at [] k d within = absurd (omega arith)
absolute_of-at (cell ∷ cells) zero d within = omega (arith, sum_by-cons (λ (c : ℕ × ℤ). unsigned_abs c.1) (pair_of cell) (pairs_of cells))
absolute_of-at (cell ∷ cells) (suc k) d within =
    let whole = sum_by-cons (λ (c : ℕ × ℤ). unsigned_abs c.1) (pair_of cell) (pairs_of cells) in
    omega (arith, whole, absolute_of-at cells k d (omega arith))

-- two rows that are one
pub same_row : (earned earned' : ℤ) (cells cells' : List Cell) (rows : List (ℤ × Cells)) → earned ≡ earned' → cells ≡ cells'
    → rows ≡ (earned', pairs_of cells') ∷ [] → ◌≡◌ {A = List (ℤ × Cells)} ((earned, pairs_of cells) ∷ []) rows
same_row earned earned' cells cells' rows e t r = cc

-- what is left of cells from a place on is all of them from there on
pub rest_of : (cells : List Cell) (k : ℕ) → take (length cells - (k + 1)) (drop (k + 1) cells) ≡ drop (suc k) cells
rest_of cells k = rw add-one (rw (← length-drop (suc k) cells) (take_all (length (drop (suc k) cells)) (drop (suc k) cells) (omega arith)))
