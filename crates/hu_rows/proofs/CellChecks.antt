-- Cells as they lie in memory: whether their ranks ascend, and where a rank stands.
use Rattle.std.proofs.Common.{◌≡◌, ◌≢◌, ◌↔◌, ℕ, zero, suc, ◌+◌, ◌-◌, ◌<◌, ◌≤◌, Bool, true, false, cond, ◌^◌, eqb, inl, inr, ℤ, pos, ◌+ℤ◌, List, [], ◌∷◌, map}
use Rattle.std.proofs.Common.{length, get_or, take, drop, refl, sym, ap, ◌∙◌, subst, arith, nat_cmp, Less, Greater, Result, Ok, Err, MatchOption, sum_by}
use Rattle.std.specs.List.{All, AllByRecursion, AllAdjacentBelow}
use Rattle.std.specs.List.Sorted.{IsBinarySearchResult, IsSearchInRange}
use Rattle.std.specs.Ordering.{ordering_index}
use Rattle.std.specs.Result.{result_ok}
use Rattle.std.proofs.lemmas.Bool.{ne_eqb, cases_lt}
use Rattle.std.proofs.lemmas.Bool.Decides.{nat_tests}
use Rattle.std.proofs.lemmas.Int.{ints}
use Rattle.std.proofs.lemmas.List.{take_rest, length-map}
use Rattle.std.proofs.lemmas.List.Sums.{sum_by-cons}
use Rattle.std.proofs.lemmas.Map.Lookups.{exact_unsigned}
use Rattle.hu_kind.specs.Database.{utility, support}
use Rattle.hu_kind.specs.Order.{Ascend}
use Rattle.hu_kind.specs.Record.{has, holds, values_of, items_in, absolute_of}
use Rattle.hu_kind.proofs.lemmas.Occurring.{above_all}
use Rattle.hu_kind.proofs.lemmas.Each.{each-from_all, each-get}
use Rattle.hu_kind.proofs.lemmas.Ascending.{each-ascending}
use Rattle.hu_totals.specs.declared.ranked.Dense.{Dense}
use Rattle.hu_totals.specs.Ranked.{Ranking, IsRanking}
use Rattle.hu_totals.specs.View.{dense_pair, cells_of}
use Rattle.hu_totals.specs.Cells.{after}
use Rattle.hu_totals.proofs.lemmas.AfterLemmas.{IsPlace, IsPlace-at}
use Rattle.hu_rows.specs.declared.rows.Row.{Row}
use Rattle.hu_rows.specs.Rows.{RowOf, AreRows, AreCounted, over, count_over, size_of, count_of, ranks_of, unmerged}
use Rattle.hu_rows.specs.Projection.{projected_row}
use Rattle.hu_rows.specs.View.{row_of, rows_of, row_with, KeepRules}
use Rattle.hu_rows.proofs.AddedCells.{get_or-cells_of, drop-cells_of}
use Rattle.hu_rows.proofs.RankOrder.{ranks, length-ranks, get_or-ranks}
use Rattle.hu_rows.specs.Tally.{AreBelow}

-- ---- ranks that ascend

ascend-tail : (first : Dense) (cells : List Dense) → AllAdjacentBelow (λ (a b : Dense). a.rank < b.rank) (first ∷ cells) (length (first ∷ cells))
    → AllAdjacentBelow (λ (a b : Dense). a.rank < b.rank) cells (length cells)
ascend-tail first cells up k d within =
    let e : suc k + 1 ≡ suc (k + 1) = omega arith in
    subst (λ j. (get_or cells k d).rank < (get_or (first ∷ cells) j d).rank) e (up (suc k) d (omega arith))

pub Ascend-adjacent : (cells : List Dense) → AllAdjacentBelow (λ (a b : Dense). a.rank < b.rank) cells (length cells) → Ascend (ranks cells)
Ascend-adjacent [] up = tt
Ascend-adjacent (first ∷ []) up = (tt, tt)
Ascend-adjacent (first ∷ next ∷ cells) up =
    let rest = Ascend-adjacent (next ∷ cells) (ascend-tail first (next ∷ cells) up) in
    let before : first.rank < next.rank = up 0 first (omega arith) in
    ((before, above_all first.rank next.rank (ranks cells) before rest.0), rest)

adjacent : (cells : List Dense) (k : ℕ) (d : Dense) → Ascend (ranks cells) → suc k < length cells → (get_or cells k d).rank < (get_or cells (suc k) d).rank
adjacent [] k d up within = absurd (omega arith)
adjacent (a ∷ []) k d up within = absurd (omega arith)
adjacent (a ∷ b ∷ cells) zero d up within = up.0.0
adjacent (a ∷ b ∷ cells) (suc k) d up within = adjacent (b ∷ cells) k d up.1 (omega arith)

pub adjacent-ascend : (cells : List Dense) → Ascend (ranks cells) → AllAdjacentBelow (λ (a b : Dense). a.rank < b.rank) cells (length cells)
adjacent-ascend cells up k d within =
    let e : k + 1 ≡ suc k = omega arith in
    subst (λ j. (get_or cells k d).rank < (get_or cells j d).rank) (sym e) (adjacent cells k d up (omega arith))

-- what holds of each row holds of each without lives, and back
pub each-rows : (P : RowOf → Type 0) (rows : List Row) → AllByRecursion (λ row. P (row_of row)) rows → AllByRecursion P (rows_of rows)
each-rows P [] all = tt
each-rows P (row ∷ rows) all = (all.0, each-rows P rows all.1)

pub rows-each : (P : RowOf → Type 0) (rows : List Row) → AllByRecursion P (rows_of rows) → AllByRecursion (λ row. P (row_of row)) rows
rows-each P [] all = tt
rows-each P (row ∷ rows) all = (all.0, rows-each P rows all.1)

-- what holds of each row holds of that at a place
pub row-at : (P : RowOf → Type 0) (rows : List Row) (i : ℕ) (d : Row) → AllByRecursion P (rows_of rows) → i < length rows → P (row_of (get_or rows i d))
row-at P rows i d all within = each-get (λ row. P (row_of row)) rows i d (rows-each P rows all) within

pub ascends-at : (rows : List Row) (i : ℕ) (d : Row) → AllByRecursion (λ row. Ascend (ranks_of row)) (rows_of rows) → i < length rows
    → Ascend (ranks_of (row_of (get_or rows i d)))
ascends-at rows i d all within = row-at (λ row. Ascend (ranks_of row)) rows i d all within

pub below-at : (m n : ℕ) (rows : List Row) (i : ℕ) (d : Row) → AreBelow n (rows_of rows) → m ≡ n → i < length rows
    → AllByRecursion (λ rank. rank < m) (ranks_of (row_of (get_or rows i d)))
below-at m n rows i d below is within =
    subst (λ k. AllByRecursion (λ rank. rank < k) (ranks_of (row_of (get_or rows i d)))) (sym is)
    (row-at (λ row. AllByRecursion (λ rank. rank < n) (ranks_of row)) rows i d below within)

pub all-ascend : (rows : List Row) → All (λ (row : Row). AllAdjacentBelow (λ (a b : Dense). a.rank < b.rank) row.cells.now (length row.cells.now)) rows
    ↔ AllByRecursion (λ row. Ascend (ranks_of row)) (rows_of rows)
all-ascend rows = (
  λ all. each-rows (λ row. Ascend (ranks_of row)) rows
      (each-from_all (λ row. Ascend (ranks_of (row_of row))) rows (λ k d within. Ascend-adjacent (get_or rows k d).cells.now (all k d within))),
  λ all k d within. adjacent-ascend (get_or rows k d).cells.now
      (each-get (λ row. Ascend (ranks_of (row_of row))) rows k d (rows-each (λ row. Ascend (ranks_of row)) rows all) within),
)

pub AreRows-rules : (rows : List Row) → KeepRules rows → AreRows (rows_of rows)
AreRows-rules rows h = record { ascending = (all-ascend rows).0 h.ascending; sizes = h.sizes; counts = h.counts }

pub rules-AreRows : (rows : List Row) → AreRows (rows_of rows) → KeepRules rows
rules-AreRows rows h = record { ascending = (all-ascend rows).1 h.ascending; sizes = h.sizes; counts = h.counts }

-- ---- where a rank stands

has-none : (z : ℕ) (cells : List Dense) → ((k : ℕ) (d : Dense) → k < length cells → (get_or cells k d).rank ≢ z) → has z (cells_of cells) ≡ false
has-none z [] none = refl
has-none z (cell ∷ cells) none =
    let no : eqb z cell.rank ≡ false = ne_eqb z cell.rank (λ e. none 0 cell (omega arith) (sym e)) in
    rw no (has-none z cells (λ k d within. none (suc k) d (omega arith)))

rank-far : (cells : List Dense) (i j : ℕ) (d : Dense) → Ascend (ranks cells) → i ≤ j → j < length cells → (get_or cells i d).rank ≤ (get_or cells j d).rank
rank-far [] i j d up before within = absurd (omega arith)
rank-far (cell ∷ cells) zero zero d up before within = omega arith
rank-far (cell ∷ cells) zero (suc j) d up before within =
    let low : cell.rank < get_or (ranks cells) j 0 = each-get (λ r. cell.rank < r) (ranks cells) j 0 up.0 (omega (arith, length-ranks cells)) in
    omega (arith, get_or-ranks cells j d (omega arith))
rank-far (cell ∷ cells) (suc i) zero d up before within = absurd (omega arith)
rank-far (cell ∷ cells) (suc i) (suc j) d up before within = rank-far cells i j d up.1 (omega arith) (omega arith)

index-far : (a b z : ℕ) → a ≤ b → ordering_index (nat_cmp a z) ≤ ordering_index (nat_cmp b z)
index-far a b z le = grind (arith, nat_tests)

not_less : (a z : ℕ) → nat_cmp a z ≡ Less → a ≢ z
not_less a z e same = let le : a < z = grind (arith, nat_tests) in omega arith

not_greater : (a z : ℕ) → nat_cmp a z ≡ Greater → a ≢ z
not_greater a z e same = let le : z < a = grind (arith, nat_tests) in omega arith

pub place-searched : (z : ℕ) (cells : List Dense) (r : Result ℕ ℕ) → Ascend (ranks cells) → IsSearchInRange r (length cells)
    → IsBinarySearchResult (λ (c : Dense). nat_cmp c.rank z) cells r
    → MatchOption (result_ok r) (has z (cells_of cells) ≡ false) (λ i. (i < length cells) × (get_or (ranks cells) i 0 ≡ z))
place-searched z cells (Ok i) up bound found =
    let none : Dense = record { rank = 0; value = pos 0 } in
    (bound, get_or-ranks cells i none bound ∙ exact_unsigned (get_or cells i none).rank z (found none))
place-searched z cells (Err i) up bound found =
    let parted = found (λ a b d le within. index-far (get_or cells a d).rank (get_or cells b d).rank z (rank-far cells a b d up le within)) in
    has-none z cells (λ k d within. elim (cases_lt k i) [
      | inl l ↦ not_less (get_or cells k d).rank z (parted.0 k d (omega arith) l)
      | inr l ↦ not_greater (get_or cells k d).rank z (parted.1 k d l within)
    ])

-- ---- a cell by its place

pub IsPlace-cells : (cells : List Dense) (i : ℕ) (d : Dense) → Ascend (items_in (cells_of cells)) → i < length cells
    → IsPlace (get_or cells i d).rank (cells_of cells) (get_or cells i d).value (cells_of (drop (i + 1) cells))
IsPlace-cells cells i d up within =
    let place = IsPlace-at (cells_of cells) i (dense_pair d) up (omega (arith, length-map cells dense_pair)) in
    let place' : IsPlace (get_or cells i d).rank (cells_of cells) (get_or cells i d).value (drop (suc i) (cells_of cells)) =
    subst (λ (c : ℕ × ℤ). IsPlace c.0 (cells_of cells) c.1 (drop (suc i) (cells_of cells))) (get_or-cells_of cells i d within) place in
    let one : i + 1 ≡ suc i = omega arith in
    record {
      found = place'.found;
      worth = place'.worth;
      tail = place'.tail ∙ ap (λ n. drop n (cells_of cells)) (sym one) ∙ sym (drop-cells_of cells (i + 1));
    }

-- ---- a row projected

pub projected_row-at : (z : ℕ) (before : ℤ) (count : ℕ) (cells : List Dense) (i : ℕ) (d : Dense) → Ascend (ranks cells) → i < length cells
    → get_or (ranks cells) i 0 ≡ z
    → row_with (before +ℤ (get_or cells i d).value) count (take (length cells - (i + 1)) (drop (i + 1) cells)) ∷ []
    ≡ projected_row z (row_with before count cells)
projected_row-at z before count cells i d up within at =
    let place = IsPlace-cells cells i d up within in
    let rank : (get_or cells i d).rank ≡ z = sym (get_or-ranks cells i d within) ∙ at in
    let place' : IsPlace z (cells_of cells) (get_or cells i d).value (cells_of (drop (i + 1) cells)) =
    subst (λ r. IsPlace r (cells_of cells) (get_or cells i d).value (cells_of (drop (i + 1) cells))) rank place in
    let tail : cells_of (take (length cells - (i + 1)) (drop (i + 1) cells)) ≡ after z (cells_of cells) =
    ap cells_of (take_rest cells (i + 1)) ∙ sym place'.tail in
    rw place'.found (λ j. record { before = before +ℤ sym place'.worth j; count = count; cells = tail j } ∷ [])

-- ---- records as rows

pub over-unmerged : (set : List ℕ) (records : List (List (ℕ × ℤ))) → over (map unmerged records) set ≡ utility records set
over-unmerged set [] = refl
over-unmerged set (r ∷ rs) = λ j. part (holds set r) j +ℤ over-unmerged set rs j
  where
    part : (b : Bool) → cond b (pos 0 +ℤ values_of set r) (pos 0) ≡ cond b (values_of set r) (pos 0)
    part true = omega (arith, ints)
    part false = refl

pub count_over-unmerged : (set : List ℕ) (records : List (List (ℕ × ℤ))) → count_over (map unmerged records) set ≡ support records set
count_over-unmerged set [] = refl
count_over-unmerged set (r ∷ rs) = omega (arith, sum_by-cons (λ r. cond (holds set r) 1 0) r rs, count_over-unmerged set rs)

sizes-unmerged : (records : List (List (ℕ × ℤ))) → sum_by size_of (map unmerged records) ≡ sum_by absolute_of records
sizes-unmerged [] = refl
sizes-unmerged (r ∷ rs) = omega (arith, sum_by-cons size_of (unmerged r) (map unmerged rs), sum_by-cons absolute_of r rs, sizes-unmerged rs)

counts-unmerged : (records : List (List (ℕ × ℤ))) → sum_by count_of (map unmerged records) ≡ length records
counts-unmerged [] = refl
counts-unmerged (r ∷ rs) = omega (arith, sum_by-cons count_of (unmerged r) (map unmerged rs), counts-unmerged rs)

ascending-unmerged : (records : List (List (ℕ × ℤ))) → AllByRecursion (λ cells. Ascend (items_in cells)) records
    → AllByRecursion (λ row. Ascend (ranks_of row)) (map unmerged records)
ascending-unmerged [] all = tt
ascending-unmerged (r ∷ rs) all = (all.0, ascending-unmerged rs all.1)

pub AreRows-unmerged : (r : Ranking) → IsRanking r → length r.records < 2 ^ 64 → AreRows (map unmerged r.records)
AreRows-unmerged r rules few = record {
  ascending = ascending-unmerged r.records (each-ascending r.records rules.ascending);
  sizes = omega (arith, sizes-unmerged r.records, rules.sum_fits);
  counts = omega (arith, counts-unmerged r.records, few);
}

pub AreCounted-unmerged : (records : List (List (ℕ × ℤ))) → AreCounted (map unmerged records)
AreCounted-unmerged [] = tt
AreCounted-unmerged (r ∷ rs) = (omega arith, AreCounted-unmerged rs)
