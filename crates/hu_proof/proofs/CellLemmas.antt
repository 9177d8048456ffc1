-- The cells of a record, by their places.
use Rattle.std.proofs.Common.{◌≡◌, ℕ, zero, suc, ◌<◌, ◌≤◌, true, false, eqb, ℤ, unsigned_abs, Some, None, List, [], ◌∷◌, length, get_or, refl, sym, ap, ◌∙◌}
use Rattle.std.proofs.Common.{inl, inr, arith}
use Rattle.std.specs.List.Sorted.{IsPartitionPoint}
use Rattle.std.proofs.lemmas.Bool.{eq-eqb, ne_eqb, cases_order}
use Rattle.std.proofs.lemmas.List.Sums.{sum_by-cons}
use Rattle.hu_kind.specs.declared.item.Cell.{Cell}
use Rattle.hu_kind.specs.Cell.{pairs_of, pair_of}
use Rattle.hu_kind.specs.Record.{items_in, absolute_of}
use Rattle.hu_kind.specs.Order.{Ascend}
use Rattle.hu_kind.proofs.lemmas.CellPlaces.{above-at, rises}
use Rattle.hu_proof.specs.Places.{value_in}

-- the value at the place of an item
pub value_in-at : (item : ℕ) (cells : List Cell) (k : ℕ) (d : Cell) → Ascend (items_in (pairs_of cells)) → k < length cells
    → (get_or cells k d).item.0 ≡ item → value_in item (pairs_of cells) ≡ Some (get_or cells k d).value
value_in-at item [] k d up within here = absurd (omega arith)
value_in-at item (cell ∷ cells) zero d up within here =
    let yes : eqb item cell.item.0 ≡ true = eq-eqb item cell.item.0 (sym here) in
    simp yes
value_in-at item (cell ∷ cells) (suc k) d up within here =
    let past = above-at cell.item.0 cells k d up.0 (omega arith) in
    let no : eqb item cell.item.0 ≡ false = ne_eqb item cell.item.0 (λ e. absurd (omega arith)) in
    simp no (value_in-at item cells k d up.1 (omega arith) here)

-- no value where no cell has the item
value_in-absent : (item : ℕ) (cells : List Cell) → ((k : ℕ) (d : Cell) → k < length cells → (get_or cells k d).item.0 ≡ item → ⊥)
    → value_in item (pairs_of cells) ≡ None
value_in-absent item [] absent = refl
value_in-absent item (cell ∷ cells) absent =
    let no : eqb item cell.item.0 ≡ false = ne_eqb item cell.item.0 (λ e. absent 0 cell (omega arith) (sym e)) in
    simp no (value_in-absent item cells (λ k d within e. absent (suc k) d (omega arith) e))

-- as where the place of the item is past the end, or another item's
pub value_in-past : (item : ℕ) (cells : List Cell) (place : ℕ) → Ascend (items_in (pairs_of cells))
    → IsPartitionPoint (λ cell. cell.item.0 < item) (λ cell. item ≤ cell.item.0) cells place
    → ((d : Cell) → place < length cells → (get_or cells place d).item.0 ≡ item → ⊥)
    → value_in item (pairs_of cells) ≡ None
value_in-past item cells place up split other = value_in-absent item cells absent
  where
    absent : (k : ℕ) (d : Cell) → k < length cells → (get_or cells k d).item.0 ≡ item → ⊥
    absent k d within e = elim (cases_order k place) [
      | inl here ↦ other d (omega arith) (ap (λ i. (get_or cells i d).item.0) (sym here) ∙ e)
      | inr (inl before) ↦ let low = split.0 k d (omega arith) before in omega arith
      | inr (inr after) ↦
          let low = split.1 place d (omega arith) (omega arith) in
          let rise = rises cells place k d up after within in
          omega arith
    ]

-- a value is within the record's absolute sum
pub value-within : (cells : List Cell) (i : ℕ) (d : Cell) → i < length cells → unsigned_abs (get_or cells i d).value ≤ absolute_of (pairs_of cells)
value-within [] i d within = absurd (omega arith)
value-within (cell ∷ cells) zero d within = omega (arith, sum_by-cons (λ (c : ℕ × ℤ). unsigned_abs c.1) (pair_of cell) (pairs_of cells))
value-within (cell ∷ cells) (suc i) d within =
    omega (arith, sum_by-cons (λ (c : ℕ × ℤ). unsigned_abs c.1) (pair_of cell) (pairs_of cells), value-within cells i d (omega arith))
