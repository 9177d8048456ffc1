-- The cells of an itemset: where an item stands among them, and the sums of their values.
use Rattle.std.proofs.Common.{◌≡◌, ℕ, zero, suc, ◌<◌, ◌≤◌, Bool, true, false, cond, eqb, ℤ, pos, ◌+ℤ◌, ◌≤ℤ◌, int_lt, None, Some, option_map, List, [], ◌∷◌}
use Rattle.std.proofs.Common.{length, get_or, drop, take, refl, sym, ap, ◌∙◌, arith, ◌||◌}
use Rattle.std.specs.List.{list_any, AllByRecursion}
use Rattle.std.specs.List.Sorted.{IsPartitionPoint}
use Rattle.std.proofs.lemmas.Int.{ints}
use Rattle.std.proofs.lemmas.Bool.{eq-eqb, ne_eqb}
use Rattle.hu_kind.specs.declared.item.Cell.{Cell}
use Rattle.hu_kind.specs.Cell.{pairs_of, pair_of}
use Rattle.hu_kind.specs.Record.{any_negative, has, items_in, total, value_of, IsItemset}
use Rattle.hu_kind.specs.Order.{Ascend}
use Rattle.hu_kind.proofs.lemmas.Ascending.{Ascend-adjacent}
use Rattle.hu_kind.proofs.lemmas.Each.{each-take, each-drop}
use Rattle.hu_kind.proofs.lemmas.CellPlaces.{no_cell-past, above-at}
use Rattle.hu_chain.specs.Place.{cell_of}
use Rattle.hu_chain.specs.Search.{cell_in}

-- ---- where an item stands

cell_in-later : (item : ℕ) (cell : ℕ × ℤ) (cells : List (ℕ × ℤ)) → eqb item cell.0 ≡ false → cell_in item (cell ∷ cells) ≡ option_map suc (cell_in item cells)
cell_in-later item cell cells miss = simp miss (later (has item cells))
  where
    later : (b : Bool) → cond b (Some (suc (cell_of item cells))) None ≡ option_map suc (cond b (Some (cell_of item cells)) None)
    later true = refl
    later false = refl

-- the cell at a place that has the item
pub cell_in-at : (item : ℕ) (cells : List Cell) (k : ℕ) (d : Cell) → Ascend (items_in (pairs_of cells))
    → k < length cells → (get_or cells k d).item.0 ≡ item → cell_in item (pairs_of cells) ≡ Some k
cell_in-at item [] k d up within here = absurd (omega arith)
cell_in-at item (cell ∷ cells) zero d up within here = let yes : eqb item cell.item.0 ≡ true = eq-eqb item cell.item.0 (sym here) in simp yes
cell_in-at item (cell ∷ cells) (suc k) d up within here =
    let past = above-at cell.item.0 cells k d up.0 (omega arith) in
    let no : eqb item cell.item.0 ≡ false = ne_eqb item cell.item.0 (λ e. absurd (omega arith)) in
    cell_in-later item (pair_of cell) (pairs_of cells) no ∙ ap (option_map suc) (cell_in-at item cells k d up.1 (omega arith) here)

cell_in-none : (item : ℕ) (cells : List Cell) → ((k : ℕ) (d : Cell) → k < length cells → (get_or cells k d).item.0
    ≡ item → ⊥) → cell_in item (pairs_of cells) ≡ None
cell_in-none item [] absent = refl
cell_in-none item (cell ∷ cells) absent =
    let no : eqb item cell.item.0 ≡ false = ne_eqb item cell.item.0 (λ e. absent 0 cell (omega arith) (sym e)) in
    cell_in-later item (pair_of cell) (pairs_of cells) no ∙ ap (option_map suc) (cell_in-none item cells (λ k d within e. absent (suc k) d (omega arith) e))

-- none where the item's place is past the end, or another item's
pub cell_in-past : (item : ℕ) (cells : List Cell) (place : ℕ) → Ascend (items_in (pairs_of cells))
    → IsPartitionPoint (λ cell. cell.item.0 < item) (λ cell. item ≤ cell.item.0) cells place
    → ((d : Cell) → place < length cells → (get_or cells place d).item.0 ≡ item → ⊥)
    → cell_in item (pairs_of cells) ≡ None
cell_in-past item cells place up split other = cell_in-none item cells (no_cell-past item cells place up split other)

-- an item that some cell has is found within the cells
pub cell_of-within : (item : ℕ) (cells : List (ℕ × ℤ)) → has item cells ≡ true → cell_of item cells < length cells
cell_of-within item [] h = cc
cell_of-within item (cell ∷ cells) h = by (cell_of-within item cells) (eqb item cell.0) refl
  where
    by : (has item cells ≡ true → cell_of item cells < length cells) → (b : Bool) → eqb item cell.0 ≡ b → cell_of item (cell ∷ cells) < length (cell ∷ cells)
    by ih true e = simp e (omega arith)
    by ih false e = let within = ih (simp e at h) in simp e (omega arith)

-- ---- the rules of an itemset

pub Ascend-itemset : (cells : List (ℕ × ℤ)) → IsItemset cells → Ascend (items_in cells)
Ascend-itemset cells is = Ascend-adjacent cells is.ascending

-- a cell whose value is at least 0
abbrev pub IsAbove : ℕ × ℤ → Type 0
IsAbove cell = pos 0 ≤ℤ cell.1

or-left : (a b : Bool) → (a || b) ≡ false → a ≡ false
or-left true b e = cc
or-left false b e = refl

or-right : (a b : Bool) → (a || b) ≡ false → b ≡ false
or-right true b e = cc
or-right false b e = e

above-not : (v : ℤ) → int_lt v (pos 0) ≡ false → pos 0 ≤ℤ v
above-not v e = grind (arith, ints)

pub each-above : (cells : List (ℕ × ℤ)) → any_negative cells ≡ false → AllByRecursion IsAbove cells
each-above [] e = tt
each-above (cell ∷ cells) e = (
  above-not cell.1 (or-left (int_lt cell.1 (pos 0)) (any_negative cells) e),
  each-above cells (or-right (int_lt cell.1 (pos 0)) (any_negative cells) e),
)

pub all-above : (elements : List (List (ℕ × ℤ))) → list_any any_negative elements ≡ false → AllByRecursion (AllByRecursion IsAbove) elements
all-above [] e = tt
all-above (cells ∷ elements) e = (
  each-above cells (or-left (any_negative cells) (list_any any_negative elements) e),
  all-above elements (or-right (any_negative cells) (list_any any_negative elements) e),
)

pub Ascend-drop : (k : ℕ) (cells : List (ℕ × ℤ)) → Ascend (items_in cells) → Ascend (items_in (drop k cells))
Ascend-drop zero cells up = up
Ascend-drop (suc k) [] up = up
Ascend-drop (suc k) (cell ∷ cells) up = Ascend-drop k cells up.1

-- ---- sums of values

pub total-above : (cells : List (ℕ × ℤ)) → AllByRecursion IsAbove cells → pos 0 ≤ℤ total cells
total-above [] above = omega (arith, ints)
total-above (cell ∷ cells) above = let ih = total-above cells above.1 in let here = above.0 in omega (arith, ints)

-- the cells before a place and those from it on
pub total-parts : (k : ℕ) (cells : List (ℕ × ℤ)) → total (take k cells) +ℤ total (drop k cells) ≡ total cells
total-parts zero cells = omega (arith, ints)
total-parts (suc k) [] = omega (arith, ints)
total-parts (suc k) (cell ∷ cells) = let ih = total-parts k cells in omega (arith, ints)

-- what comes up to an item and after it
pub total-item : (item : ℕ) (cells : List (ℕ × ℤ)) → AllByRecursion IsAbove cells → has item cells ≡ true
    → (pos 0 ≤ℤ value_of item cells) × ((value_of item cells +ℤ total (drop (suc (cell_of item cells)) cells)) ≤ℤ total cells)
total-item item [] above h = cc
total-item item (cell ∷ cells) above h = by (total-item item cells above.1) (total-above cells above.1) (eqb item cell.0) refl
  where
    by : (has item cells ≡ true → (pos 0 ≤ℤ value_of item cells)
        × ((value_of item cells +ℤ total (drop (suc (cell_of item cells)) cells)) ≤ℤ total cells))
        → pos 0 ≤ℤ total cells
        → (b : Bool) → eqb item cell.0 ≡ b → (pos 0 ≤ℤ value_of item (cell ∷ cells))
        × ((value_of item (cell ∷ cells) +ℤ total (drop (suc (cell_of item (cell ∷ cells))) (cell ∷ cells)))
        ≤ℤ total (cell ∷ cells))
    by ih all true e = let here = above.0 in simp e (here, omega (arith, ints))
    by ih all false e =
        let later = ih (simp e at h) in
        let here = above.0 in
        let low = later.0 in
        let high = later.1 in
        simp e (low, omega (arith, ints))

-- one more cell
pub total-next : (cells : List Cell) (k : ℕ) (d : Cell) → k < length cells → total (pairs_of (take (suc k) cells))
    ≡ total (pairs_of (take k cells)) +ℤ (get_or cells k d).value
total-next [] k d within = absurd (omega arith)
total-next (cell ∷ cells) zero d within = omega (arith, ints)
total-next (cell ∷ cells) (suc k) d within = let ih = total-next cells k d (omega arith) in omega (arith, ints)

pub pairs-take : (k : ℕ) (cells : List Cell) → pairs_of (take k cells) ≡ take k (pairs_of cells)
pairs-take zero cells = refl
pairs-take (suc k) [] = refl
pairs-take (suc k) (cell ∷ cells) = ap (λ cs. pair_of cell ∷ cs) (pairs-take k cells)

pub pairs-drop : (k : ℕ) (cells : List Cell) → pairs_of (drop k cells) ≡ drop k (pairs_of cells)
pairs-drop zero cells = refl
pairs-drop (suc k) [] = refl
pairs-drop (suc k) (cell ∷ cells) = pairs-drop k cells

pub total-front : (k : ℕ) (cells : List Cell) → AllByRecursion IsAbove (pairs_of cells)
    → (pos 0 ≤ℤ total (pairs_of (take k cells))) × (total (pairs_of (take k cells)) ≤ℤ total (pairs_of cells))
total-front k cells above =
    let same = pairs-take k cells in
    let low = total-above (take k (pairs_of cells)) (each-take IsAbove k (pairs_of cells) above) in
    let high = total-above (drop k (pairs_of cells)) (each-drop IsAbove k (pairs_of cells) above) in
    let parts = total-parts k (pairs_of cells) in
    rw same (low, omega (arith, ints))
