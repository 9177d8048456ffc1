-- Rows merged run by run, as they lie in memory.
use Rattle.std.proofs.Common.{◌≡◌, ℕ, ◌+◌, ◌-◌, ◌<◌, ◌≤◌, ◌^◌, List, [], ◌∷◌, ◌++◌, length, get_or, take, drop, refl, sym, ap, ◌∙◌, subst, arith}
use Rattle.std.proofs.Common.{sum_by, append_assoc}
use Rattle.std.specs.List.{fold, prefix_len}
use Rattle.std.proofs.lemmas.List.{take_rest, take_more, drop_more, drop-drop, map-append, length-drop}
use Rattle.std.proofs.lemmas.List.Sums.{sum_by-cons, sum_by_more_le, sum_by-take-le, sum_by-drop_more, sum_by-take-drop, prefix_len-le-length, get_or-le-sum_by}
use Rattle.hu_kind.specs.Order.{Ascend}
use Rattle.hu_rows.specs.declared.rows.Row.{Row}
use Rattle.hu_rows.specs.Rows.{RowOf, AreRows, size_of, ranks_of}
use Rattle.hu_rows.specs.Merging.{added, merged}
use Rattle.hu_rows.specs.View.{row_of, rows_of, same_ranks}
use Rattle.hu_rows.proofs.CellChecks.{ascends-at}
use Rattle.hu_rows.proofs.MergingLemmas.{fold-within, merged-run}
use Rattle.hu_rows.proofs.PastEnd.{past_row}

pub sum_by-rows_of : (f : RowOf → ℕ) (rows : List Row) → sum_by f (rows_of rows) ≡ sum_by (λ row. f (row_of row)) rows
sum_by-rows_of f [] = refl
sum_by-rows_of f (row ∷ rows) =
    omega (arith, sum_by-cons f (row_of row) (rows_of rows), sum_by-cons (λ (r : Row). f (row_of r)) row rows, sum_by-rows_of f rows)

-- a row of rows: its ranks ascend, and its size fits
pub record IsRow (row : RowOf) : Type 0 where
  pub ascending : Ascend (ranks_of row)
  pub size : size_of row < 2 ^ 127

pub IsRow-at : (rows : List Row) (i : ℕ) → AreRows (rows_of rows) → i < length rows → IsRow (row_of (get_or rows i past_row))
IsRow-at rows i rules within = record {
  ascending = ascends-at rows i past_row rules.ascending within;
  size = omega (arith, sum_by-rows_of size_of rows, get_or-le-sum_by (λ (row : Row). size_of (row_of row)) rows i past_row within, rules.sizes);
}

-- a run is within all rows
pub run-within : (f : RowOf → ℕ) (rows : List Row) (start same : ℕ) (d : Row) → start < length rows
    → f (row_of (get_or rows start d)) + sum_by f (rows_of (take same (take (length rows - (start + 1)) (drop (start + 1) rows)))) ≤ sum_by f (rows_of rows)
run-within f rows start same d within =
    rw (take_rest rows (start + 1))
    (omega (
      arith,
      sum_by-rows_of f (take same (drop (start + 1) rows)),
      sum_by-rows_of f rows,
      sum_by-take-le (λ (r : Row). f (row_of r)) (drop (start + 1) rows) same,
      sum_by-drop_more (λ (r : Row). f (row_of r)) rows start d within,
      sum_by-take-drop (λ (r : Row). f (row_of r)) rows start,
    ))

pub run-end : (first : RowOf) (rows : List Row) (start : ℕ) → start < length rows
    → start + (1 + prefix_len (same_ranks first) (take (length rows - (start + 1)) (drop (start + 1) rows))) ≤ length rows
run-end first rows start within =
    rw (take_rest rows (start + 1)) (omega (arith, prefix_len-le-length (same_ranks first) (drop (start + 1) rows), length-drop (start + 1) rows))

-- one run more
pub run-step : (rows : List Row) (start same : ℕ) (d : Row) (done : List Row) (one : Row) → start < length rows
    → same ≡ prefix_len (same_ranks (row_of (get_or rows start d))) (take (length rows - (start + 1)) (drop (start + 1) rows))
    → row_of one ≡ fold added (row_of (get_or rows start d)) (rows_of (take same (take (length rows - (start + 1)) (drop (start + 1) rows))))
    → rows_of done ++ merged (rows_of (drop start rows)) ≡ merged (rows_of rows)
    → rows_of (done ++ one ∷ []) ++ merged (rows_of (drop (start + (1 + same)) rows)) ≡ merged (rows_of rows)
run-step rows start same d done one within count is before =
    let first = get_or rows start d in
    let rest = drop (start + 1) rows in
    let whole : take (length rows - (start + 1)) rest ≡ rest = take_rest rows (start + 1) in
    let count' : same ≡ prefix_len (same_ranks (row_of first)) rest = count ∙ ap (prefix_len (same_ranks (row_of first))) whole in
    let is' : row_of one ≡ fold added (row_of first) (rows_of (take same rest)) = is ∙ ap (λ xs. fold added (row_of first) (rows_of (take same xs))) whole in
    let run : merged (rows_of (first ∷ rest)) ≡ fold added (row_of first) (rows_of (take same rest)) ∷ merged (rows_of (drop same rest)) =
    subst (λ n. merged (rows_of (first ∷ rest)) ≡ fold added (row_of first) (rows_of (take n rest)) ∷ merged (rows_of (drop n rest))) (sym count')
    (merged-run first rest) in
    let place : start + 1 + same ≡ start + (1 + same) = omega arith in
    let later : merged (rows_of (drop (start + (1 + same)) rows)) ≡ merged (rows_of (drop same rest)) = ap (λ n. merged (rows_of (drop n rows))) (sym place)
    ∙ ap (λ xs. merged (rows_of xs)) (sym (drop-drop same (start + 1) rows)) in
    let now : row_of one ∷ merged (rows_of (drop (start + (1 + same)) rows)) ≡ merged (rows_of (drop start rows)) =
    (λ j. is' j ∷ later j) ∙ sym run ∙ ap (λ xs. merged (rows_of xs)) (sym (drop_more rows start d within)) in
    ap (λ xs. xs ++ merged (rows_of (drop (start + (1 + same)) rows))) (map-append row_of done (one ∷ []))
    ∙ append_assoc (rows_of done) (row_of one ∷ []) (merged (rows_of (drop (start + (1 + same)) rows)))
    ∙ ap (λ xs. rows_of done ++ xs) now
    ∙ before

-- ---- one row more

pub rows_of-more : (rows : List Row) (i : ℕ) (d : Row) → i < length rows → rows_of (take (i + 1) rows) ≡ rows_of (take i rows) ++ row_of (get_or rows i d) ∷ []
rows_of-more rows i d within = ap rows_of (take_more rows i d within) ∙ map-append row_of (take i rows) (get_or rows i d ∷ [])

pub sum_by-more : (f : RowOf → ℕ) (rows : List Row) (i : ℕ) (d : Row) → i < length rows
    → sum_by f (rows_of (take i rows)) + f (row_of (get_or rows i d)) ≤ sum_by f (rows_of rows)
sum_by-more f rows i d within =
    omega (arith, sum_by-rows_of f (take i rows), sum_by-rows_of f rows, sum_by_more_le (λ (r : Row). f (row_of r)) rows i d within)

-- the rows added so far and the next are within all of them
pub fold-room : (f : RowOf → ℕ) → ((row other : RowOf) → f (added row other) ≤ f row + f other) → (first : RowOf) (rest : List Row) (i : ℕ) (d : Row)
    → i < length rest → f (fold added first (rows_of (take i rest))) + f (row_of (get_or rest i d)) ≤ f first + sum_by f (rows_of rest)
fold-room f grows first rest i d within = omega (arith, fold-within f grows first (rows_of (take i rest)), sum_by-more f rest i d within)
