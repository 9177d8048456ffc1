-- Rows narrowed cell by cell and row by row, as they lie in memory.
use Rattle.std.proofs.Common.{◌≡◌, ℕ, suc, ◌+◌, ◌<◌, ◌≤◌, Bool, true, false, cond, eqb, nat_lt, ℤ, List, [], ◌∷◌, ◌++◌, length, get_or, take, refl, sym, ap}
use Rattle.std.proofs.Common.{◌∙◌, arith, append-nil}
use Rattle.std.proofs.lemmas.Bool.{eqb-true, lt-ltb, le-ltb}
use Rattle.std.proofs.lemmas.List.{take_more, map-append, length-map}
use Rattle.std.proofs.lemmas.Grind.{flat_map-append}
use Rattle.hu_totals.specs.declared.ranked.Dense.{Dense}
use Rattle.hu_totals.specs.View.{dense_pair, cells_of}
use Rattle.hu_rows.specs.declared.rows.Row.{Row}
use Rattle.hu_rows.specs.Handed.{only, narrowed, narrowed_row}
use Rattle.hu_rows.specs.View.{row_of, rows_of, row_with}

-- ---- cells

only-append : (p : ℕ → Bool) (cells : List (ℕ × ℤ)) (cell : ℕ × ℤ) → only p (cells ++ cell ∷ []) ≡ only p cells ++ cond (p cell.0) (cell ∷ []) []
only-append p [] cell = refl
only-append p (c ∷ cells) cell = elim (p c.0) as (λ b. cond b (c ∷ only p (cells ++ cell ∷ [])) (only p (cells ++ cell ∷ []))
    ≡ cond b (c ∷ only p cells) (only p cells) ++ cond (p cell.0) (cell ∷ []) []) [
      | true ↦ ap (λ cs. c ∷ cs) (only-append p cells cell)
      | false ↦ only-append p cells cell
    ]

cells_of-if : (b : Bool) (kept : List Dense) (cell : Dense) → cells_of (kept ++ cond b (cell ∷ []) []) ≡ cells_of kept ++ cond b (dense_pair cell ∷ []) []
cells_of-if true kept cell = map-append dense_pair kept (cell ∷ [])
cells_of-if false kept cell = map-append dense_pair kept []

pub only-more : (p : ℕ → Bool) (cells : List Dense) (i : ℕ) (d : Dense) (kept now : List Dense) (is_kept : Bool) → i < length cells
    → cells_of kept ≡ only p (cells_of (take i cells))
    → is_kept ≡ p (get_or cells i d).rank → now ≡ kept ++ cond is_kept (get_or cells i d ∷ []) [] → cells_of now ≡ only p (cells_of (take (i + 1) cells))
only-more p cells i d kept now is_kept within before is pushed =
    ap cells_of pushed
    ∙ cells_of-if is_kept kept (get_or cells i d)
    ∙ (λ j. before j ++ cond (is j) (dense_pair (get_or cells i d) ∷ []) [])
    ∙ sym (only-append p (cells_of (take i cells)) (dense_pair (get_or cells i d)))
    ∙ ap (only p) (sym (map-append dense_pair (take i cells) (get_or cells i d ∷ [])))
    ∙ ap (λ cs. only p (cells_of cs)) (sym (take_more cells i d within))

length-only : (p : ℕ → Bool) (cells : List (ℕ × ℤ)) → length (only p cells) ≤ length cells
length-only p [] = omega arith
length-only p (c ∷ cells) = let ih = length-only p cells in elim (p c.0) as (λ b. length (cond b (c ∷ only p cells) (only p cells)) ≤ suc (length cells)) [
  | true ↦ omega arith
  | false ↦ omega arith
]

-- where as many are kept as there are, all are
only-all : (p : ℕ → Bool) (cells : List (ℕ × ℤ)) → length (only p cells) ≡ length cells → only p cells ≡ cells
only-all p [] same = refl
only-all p (c ∷ cells) same = by (p c.0) same (only-all p cells)
  where
    by : (b : Bool) → length (cond b (c ∷ only p cells) (only p cells)) ≡ suc (length cells) → (length (only p cells) ≡ length cells → only p cells ≡ cells)
        → cond b (c ∷ only p cells) (only p cells) ≡ c ∷ cells
    by true same ih = ap (λ cs. c ∷ cs) (ih (omega arith))
    by false same ih = absurd (omega (arith, length-only p cells))

-- the cells that are put in the place of those of a row
pub cells-chosen : (p : ℕ → Bool) (cells kept chosen : List Dense) → cells_of kept ≡ only p (cells_of cells)
    → chosen ≡ cond (eqb (length kept) (length cells)) cells kept → cells_of chosen ≡ only p (cells_of cells)
cells-chosen p cells kept chosen is choice = by (eqb (length kept) (length cells)) refl choice
  where
    by : (b : Bool) → eqb (length kept) (length cells) ≡ b → chosen ≡ cond b cells kept → cells_of chosen ≡ only p (cells_of cells)
    by true e pick =
        let same : length kept ≡ length cells = eqb-true (length kept) (length cells) e in
        let long : length (only p (cells_of cells)) ≡ length (cells_of cells) = ap length (sym is) ∙ length-map kept dense_pair ∙ same
        ∙ sym (length-map cells dense_pair) in
        ap cells_of pick ∙ sym (only-all p (cells_of cells) long)
    by false e pick = ap cells_of pick ∙ is

-- ---- a row

module _ (p : ℕ → Bool) (row : Row) (kept : List Dense) (is : cells_of kept ≡ only p (cells_of row.cells.now)) where
  size : length (only p (cells_of row.cells.now)) ≡ length kept
  size = ap length (sym is) ∙ length-map kept dense_pair

  -- two or more are left
  pub narrowed-some : (rows now : List Row) (fresh : Row) → 1 < length kept → row_of fresh ≡ row_with row.before row.count fresh.cells.now
      → cells_of fresh.cells.now ≡ only p (cells_of row.cells.now) → now ≡ rows ++ fresh ∷ []
      → rows_of now ≡ rows_of rows ++ narrowed_row p (row_of row)
  narrowed-some rows now fresh two made cells pushed =
      let yes : nat_lt 1 (length (only p (cells_of row.cells.now))) ≡ true = lt-ltb 1 (length (only p (cells_of row.cells.now))) (omega (arith, size)) in
      let one : narrowed_row p (row_of row) ≡ row_of fresh ∷ [] =
      ap (λ b. cond b (record { before = row.before; count = row.count; cells = only p (cells_of row.cells.now) } ∷ []) []) yes
      ∙ (λ j. (record { before = row.before; count = row.count; cells = sym cells j }) ∷ []) ∙ ap (λ r. r ∷ []) (sym made) in
      ap rows_of pushed ∙ map-append row_of rows (fresh ∷ []) ∙ ap (λ rs. rows_of rows ++ rs) (sym one)

  pub narrowed-none : (rows : List Row) → length kept ≤ 1 → rows_of rows ≡ rows_of rows ++ narrowed_row p (row_of row)
  narrowed-none rows few =
      let no : nat_lt 1 (length (only p (cells_of row.cells.now))) ≡ false = le-ltb 1 (length (only p (cells_of row.cells.now))) (omega (arith, size)) in
      let none : narrowed_row p (row_of row) ≡ [] =
      ap (λ b. cond b (record { before = row.before; count = row.count; cells = only p (cells_of row.cells.now) } ∷ []) []) no in
      sym (append-nil (rows_of rows)) ∙ ap (λ rs. rows_of rows ++ rs) (sym none)

-- ---- rows

pub narrowed-more : (p : ℕ → Bool) (rows : List Row) (i : ℕ) (d : Row) → i < length rows
    → narrowed p (rows_of (take i rows)) ++ narrowed_row p (row_of (get_or rows i d)) ≡ narrowed p (rows_of (take (i + 1) rows))
narrowed-more p rows i d within =
    ap (λ rs. narrowed p (rows_of (take i rows)) ++ rs) (sym (append-nil (narrowed_row p (row_of (get_or rows i d)))))
    ∙ sym (flat_map-append (narrowed_row p) (rows_of (take i rows)) (row_of (get_or rows i d) ∷ []))
    ∙ ap (narrowed p) (sym (map-append row_of (take i rows) (get_or rows i d ∷ [])))
    ∙ ap (λ rs. narrowed p (rows_of rs)) (sym (take_more rows i d within))
