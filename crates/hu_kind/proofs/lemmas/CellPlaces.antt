-- Cells with ascending items, by their places.
use Rattle.std.proofs.Common.{[], ◌≤◌, sym, ap, ◌∙◌, ℕ, zero, suc, ◌<◌, List, ◌∷◌, length, get_or, arith, ◌≡◌, inl, inr, ℤ, ◌+◌, pos}
use Rattle.std.specs.List.{AllByRecursion, AllAdjacentBelow}
use Rattle.std.specs.List.Sorted.{IsPartitionPoint, IsNonDecreasingBy, IsStrictlyIncreasing}
use Rattle.std.proofs.lemmas.Bool.{cases_lt, cases_order}
use Rattle.std.proofs.lemmas.List.{length-map, get_or-map}
use Rattle.hu_kind.specs.declared.item.Cell.{Cell}
use Rattle.hu_kind.specs.Cell.{pairs_of}
use Rattle.hu_kind.specs.Record.{items_in}
use Rattle.hu_kind.specs.Order.{Ascend}

pub above-at : (x : ℕ) (cells : List Cell) (k : ℕ) (d : Cell) → AllByRecursion (λ y. x < y) (items_in (pairs_of cells))
    → k < length cells → x < (get_or cells k d).item.0
above-at x [] k d above within = absurd (omega arith)
above-at x (cell ∷ cells) zero d above within = above.0
above-at x (cell ∷ cells) (suc k) d above within = above-at x cells k d above.1 (omega arith)

-- the items ascend strictly from place to place
pub rises : (cells : List Cell) (i j : ℕ) (d : Cell) → Ascend (items_in (pairs_of cells)) → i < j → j < length cells
    → (get_or cells i d).item.0 < (get_or cells j d).item.0
rises [] i j d up before within = absurd (omega arith)
rises (cell ∷ cells) i zero d up before within = absurd (omega arith)
rises (cell ∷ cells) zero (suc j) d up before within = above-at cell.item.0 cells j d up.0 (omega arith)
rises (cell ∷ cells) (suc i) (suc j) d up before within = rises cells i j d up.1 (omega arith) (omega arith)

pub IsNonDecreasingBy-ascend : (cells : List Cell) → Ascend (items_in (pairs_of cells)) → IsNonDecreasingBy (λ cell. cell.item.0) cells
IsNonDecreasingBy-ascend cells up i j d upto within = elim (cases_lt i j) [
  | inl before ↦ let rise = rises cells i j d up before within in omega arith
  | inr after ↦ let same : i ≡ j = omega arith in rw same (omega arith)
]

pub adjacent : (cells : List (ℕ × ℤ)) (k : ℕ) (d : ℕ × ℤ) → Ascend (items_in cells) → suc k < length cells → (get_or cells k d).0 < (get_or cells (suc k) d).0
adjacent [] k d up within = absurd (omega arith)
adjacent (a ∷ []) k d up within = absurd (omega arith)
adjacent (a ∷ b ∷ cells) zero d up within = up.0.0
adjacent (a ∷ b ∷ cells) (suc k) d up within = adjacent (b ∷ cells) k d up.1 (omega arith)

pub items_rise : (cs : List (ℕ × ℤ)) → AllAdjacentBelow (λ a b. a.0 < b.0) cs (length cs) → IsStrictlyIncreasing (items_in cs)
items_rise cs h k within =
    let inside : k + 1 < length cs = omega (arith, length-map cs (λ cell. cell.0)) in
    omega (
      arith,
      get_or-map (λ (cell : ℕ × ℤ). cell.0) cs k (0, pos 0) 0 (omega arith),
      get_or-map (λ (cell : ℕ × ℤ). cell.0) cs (k + 1) (0, pos 0) 0 inside,
      h k (0, pos 0) inside,
    )

-- no cell has an item whose place is past the end, or another item's
pub no_cell-past : (item : ℕ) (cells : List Cell) (place : ℕ) → Ascend (items_in (pairs_of cells))
    → IsPartitionPoint (λ cell. cell.item.0 < item) (λ cell. item ≤ cell.item.0) cells place
    → ((d : Cell) → place < length cells → (get_or cells place d).item.0 ≡ item → ⊥)
    → (k : ℕ) (d : Cell) → k < length cells → (get_or cells k d).item.0 ≡ item → ⊥
no_cell-past item cells place up split other k d within e = elim (cases_order k place) [
  | inl here ↦ other d (omega arith) (ap (λ i. (get_or cells i d).item.0) (sym here) ∙ e)
  | inr (inl before) ↦ let low = split.0 k d (omega arith) before in omega arith
  | inr (inr after) ↦
      let low = split.1 place d (omega arith) (omega arith) in
      let rise = rises cells place k d up after within in
      omega arith
]
