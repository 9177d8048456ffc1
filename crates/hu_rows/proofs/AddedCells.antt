-- Cells and rows of the same ranks added.
use Rattle.std.proofs.Common.{◌≡◌, ℕ, zero, suc, ◌+◌, ◌^◌, ◌<◌, ◌≤◌, Bool, true, false, cond, eqb, ◌&&◌, ◌||◌, ℤ, pos, unsigned_abs, ◌+ℤ◌, List, [], ◌∷◌}
use Rattle.std.proofs.Common.{length, get_or, set, take, drop, ◌⊎◌, inl, inr, refl, sym, ap, ◌∙◌, arith}
use Rattle.std.proofs.lemmas.Int.{ints}
use Rattle.std.proofs.lemmas.List.{get_or-map, length-map, map-set}
use Rattle.std.proofs.lemmas.List.Sums.{sum_by-cons}
use Rattle.hu_kind.specs.Record.{has, holds, value_of, values_of, items_in, absolute_of}
use Rattle.hu_totals.specs.declared.ranked.Dense.{Dense}
use Rattle.hu_totals.specs.View.{dense_pair, cells_of}
use Rattle.hu_totals.proofs.lemmas.DenseLemmas.{value-within}
use Rattle.hu_rows.specs.Rows.{RowOf, over_row, count_in, size_of, ranks_of}
use Rattle.hu_rows.specs.Merging.{added, added_cells}

-- added cells have the ranks of the first
pub items_in-added_cells : (cells others : List (ℕ × ℤ)) → items_in (added_cells cells others) ≡ items_in cells
items_in-added_cells [] others = refl
items_in-added_cells (cell ∷ cells) [] = refl
items_in-added_cells (cell ∷ cells) (other ∷ others) = ap (λ rest. cell.0 ∷ rest) (items_in-added_cells cells others)

-- what stands in cells is told by their ranks
has-ranks : (rank : ℕ) (cells others : List (ℕ × ℤ)) → items_in cells ≡ items_in others → has rank cells ≡ has rank others
has-ranks rank [] [] same = refl
has-ranks rank [] (other ∷ others) same = cc
has-ranks rank (cell ∷ cells) [] same = cc
has-ranks rank (cell ∷ cells) (other ∷ others) same =
    let first : cell.0 ≡ other.0 = cc in
    let rest : items_in cells ≡ items_in others = cc in
    λ j. eqb rank (first j) || has-ranks rank cells others rest j

holds-ranks : (ranks : List ℕ) (cells others : List (ℕ × ℤ)) → items_in cells ≡ items_in others → holds ranks cells ≡ holds ranks others
holds-ranks [] cells others same = refl
holds-ranks (rank ∷ ranks) cells others same = λ j. has-ranks rank cells others same j && holds-ranks ranks cells others same j

pub value_of-added : (rank : ℕ) (cells others : List (ℕ × ℤ)) → items_in cells ≡ items_in others
    → value_of rank (added_cells cells others) ≡ value_of rank cells +ℤ value_of rank others
value_of-added rank [] [] same = refl
value_of-added rank [] (other ∷ others) same = cc
value_of-added rank (cell ∷ cells) [] same = cc
value_of-added rank (cell ∷ cells) (other ∷ others) same =
    let first : cell.0 ≡ other.0 = cc in
    let rest : items_in cells ≡ items_in others = cc in
    by (eqb rank cell.0) (eqb rank other.0) (ap (eqb rank) first) (value_of-added rank cells others rest)
  where
    by : (b c : Bool) → b ≡ c → value_of rank (added_cells cells others) ≡ value_of rank cells +ℤ value_of rank others
        → cond b (cell.1 +ℤ other.1) (value_of rank (added_cells cells others)) ≡ cond b cell.1 (value_of rank cells) +ℤ cond c other.1 (value_of rank others)
    by true true e ih = refl
    by true false e ih = cc
    by false true e ih = cc
    by false false e ih = ih

values_of-added : (ranks : List ℕ) (cells others : List (ℕ × ℤ)) → items_in cells ≡ items_in others
    → values_of ranks (added_cells cells others) ≡ values_of ranks cells +ℤ values_of ranks others
values_of-added [] cells others same = refl
values_of-added (rank ∷ ranks) cells others same = omega (arith, ints, value_of-added rank cells others same, values_of-added ranks cells others same)

held-added : (ranks : List ℕ) (row other : RowOf) → ranks_of row ≡ ranks_of other → holds ranks (added row other).cells ≡ holds ranks other.cells
held-added ranks row other same = holds-ranks ranks (added row other).cells other.cells (items_in-added_cells row.cells other.cells ∙ same)

-- what a set earns in rows of the same ranks, and how many records they stand for
pub over_row-added : (ranks : List ℕ) (row other : RowOf) → ranks_of row ≡ ranks_of other
    → over_row ranks (added row other) ≡ over_row ranks row +ℤ over_row ranks other
over_row-added ranks row other same =
    rw (held-added ranks row other same, holds-ranks ranks row.cells other.cells same) (by (holds ranks other.cells))
  where
    by : (b : Bool) → cond b (row.before +ℤ other.before +ℤ values_of ranks (added_cells row.cells other.cells)) (pos 0)
        ≡ cond b (row.before +ℤ values_of ranks row.cells) (pos 0) +ℤ cond b (other.before +ℤ values_of ranks other.cells) (pos 0)
    by true = omega (arith, ints, values_of-added ranks row.cells other.cells same)
    by false = refl

pub count_in-added : (ranks : List ℕ) (row other : RowOf) → ranks_of row ≡ ranks_of other
    → count_in ranks (added row other) ≡ count_in ranks row + count_in ranks other
count_in-added ranks row other same =
    rw (held-added ranks row other same, holds-ranks ranks row.cells other.cells same) (by (holds ranks other.cells))
  where
    by : (b : Bool) → cond b (row.count + other.count) 0 ≡ cond b row.count 0 + cond b other.count 0
    by true = refl
    by false = omega arith

-- sizes
pub absolute_of-added : (cells others : List (ℕ × ℤ)) → absolute_of (added_cells cells others) ≤ absolute_of cells + absolute_of others
absolute_of-added [] others = omega arith
absolute_of-added (cell ∷ cells) [] = omega arith
absolute_of-added (cell ∷ cells) (other ∷ others) = omega (
  arith,
  ints,
  sum_by-cons (λ (c : ℕ × ℤ). unsigned_abs c.1) (cell.0, cell.1 +ℤ other.1) (added_cells cells others),
  sum_by-cons (λ (c : ℕ × ℤ). unsigned_abs c.1) cell cells,
  sum_by-cons (λ (c : ℕ × ℤ). unsigned_abs c.1) other others,
  absolute_of-added cells others,
)

pub size_of-added : (row other : RowOf) → size_of (added row other) ≤ size_of row + size_of other
size_of-added row other = omega (arith, ints, absolute_of-added row.cells other.cells)

-- ---- added place by place

pub added_cells-none : (cells : List (ℕ × ℤ)) → added_cells cells [] ≡ cells
added_cells-none [] = refl
added_cells-none (cell ∷ cells) = refl

-- one place more
pub added_cells-more : (cells others : List (ℕ × ℤ)) (i : ℕ) (c d : ℕ × ℤ) → i < length cells → i < length others
    → added_cells cells (take (suc i) others) ≡ set (added_cells cells (take i others)) i ((get_or cells i c).0, (get_or cells i c).1 +ℤ (get_or others i d).1)
added_cells-more [] others i c d within within' = absurd (omega arith)
added_cells-more (cell ∷ cells) [] i c d within within' = absurd (omega arith)
added_cells-more (cell ∷ cells) (other ∷ others) zero c d within within' = ap (λ rest. (cell.0, cell.1 +ℤ other.1) ∷ rest) (added_cells-none cells)
added_cells-more (cell ∷ cells) (other ∷ others) (suc i) c d within within' =
    ap (λ rest. (cell.0, cell.1 +ℤ other.1) ∷ rest) (added_cells-more cells others i c d (omega arith) (omega arith))

-- the next place is as it was
pub get_or-added_cells : (cells others : List (ℕ × ℤ)) (i : ℕ) (d : ℕ × ℤ) → i < length cells → i < length others
    → get_or (added_cells cells (take i others)) i d ≡ get_or cells i d
get_or-added_cells [] others i d within within' = absurd (omega arith)
get_or-added_cells (cell ∷ cells) [] i d within within' = absurd (omega arith)
get_or-added_cells (cell ∷ cells) (other ∷ others) zero d within within' = refl
get_or-added_cells (cell ∷ cells) (other ∷ others) (suc i) d within within' = get_or-added_cells cells others i d (omega arith) (omega arith)

-- past the end of either nothing is added
pub added_cells-all : (cells others : List (ℕ × ℤ)) (i : ℕ) → (length cells ≤ i) ⊎ (length others ≤ i)
    → added_cells cells (take i others) ≡ added_cells cells others
added_cells-all [] others i short = refl
added_cells-all (cell ∷ cells) [] zero short = refl
added_cells-all (cell ∷ cells) [] (suc i) short = refl
added_cells-all (cell ∷ cells) (other ∷ others) zero (inl l) = absurd (omega arith)
added_cells-all (cell ∷ cells) (other ∷ others) zero (inr l) = absurd (omega arith)
added_cells-all (cell ∷ cells) (other ∷ others) (suc i) (inl l) =
    ap (λ rest. (cell.0, cell.1 +ℤ other.1) ∷ rest) (added_cells-all cells others i (inl (omega arith)))
added_cells-all (cell ∷ cells) (other ∷ others) (suc i) (inr l) =
    ap (λ rest. (cell.0, cell.1 +ℤ other.1) ∷ rest) (added_cells-all cells others i (inr (omega arith)))

-- ---- cells as they lie in memory

pub get_or-cells_of : (cells : List Dense) (i : ℕ) (d : Dense) → i < length cells → get_or (cells_of cells) i (dense_pair d) ≡ dense_pair (get_or cells i d)
get_or-cells_of cells i d within = get_or-map dense_pair cells i d (dense_pair d) within

pub drop-cells_of : (cells : List Dense) (n : ℕ) → cells_of (drop n cells) ≡ drop n (cells_of cells)
drop-cells_of cells zero = refl
drop-cells_of [] (suc n) = refl
drop-cells_of (cell ∷ cells) (suc n) = drop-cells_of cells n

module _ (first others now : List Dense) (i : ℕ) (d : Dense) (is : cells_of now ≡ added_cells (cells_of first) (take i (cells_of others)))
    (len : length now ≡ length first) (within : i < length first) (within' : i < length others) where
  -- the next place is as it was
  pub place-added : dense_pair (get_or now i d) ≡ get_or (cells_of first) i (dense_pair d)
  place-added =
      sym (get_or-cells_of now i d (omega arith))
      ∙ ap (λ cells. get_or cells i (dense_pair d)) is
      ∙ get_or-added_cells (cells_of first) (cells_of others) i (dense_pair d) (omega (arith, length-map first dense_pair))
      (omega (arith, length-map others dense_pair))

  pub fits-added : absolute_of (cells_of first) + absolute_of (cells_of others) < 2 ^ 127
      → unsigned_abs (get_or now i d).value + unsigned_abs (get_or others i d).value < 2 ^ 127
  fits-added fits =
      let same : dense_pair (get_or now i d) ≡ dense_pair (get_or first i d) = place-added ∙ get_or-cells_of first i d within in
      omega (arith, ap (λ (c : ℕ × ℤ). unsigned_abs c.1) same, value-within first i d within, value-within others i d within')

  pub step-added : (r : Dense) → dense_pair r ≡ ((get_or now i d).rank, (get_or now i d).value +ℤ (get_or others i d).value)
      → cells_of (set now i r) ≡ added_cells (cells_of first) (take (i + 1) (cells_of others))
  step-added r e =
      let other = get_or-cells_of others i d within' in
      let pair : dense_pair r
      ≡ ((get_or (cells_of first) i (dense_pair d)).0, (get_or (cells_of first) i (dense_pair d)).1 +ℤ (get_or (cells_of others) i (dense_pair d)).1) =
      e ∙ (λ j. ((place-added j).0, (place-added j).1 +ℤ (sym other j).1)) in
      let one : i + 1 ≡ suc i = omega arith in
      map-set dense_pair now i r
      ∙ (λ j. set (is j) i (pair j))
      ∙ sym (added_cells-more (cells_of first) (cells_of others) i (dense_pair d) (dense_pair d) (omega (arith, length-map first dense_pair))
      (omega (arith, length-map others dense_pair)))
      ∙ ap (λ n. added_cells (cells_of first) (take n (cells_of others))) (sym one)

pub end-added : (first others : List Dense) (i : ℕ) → (length first ≤ i) ⊎ (length others ≤ i)
    → added_cells (cells_of first) (take i (cells_of others)) ≡ added_cells (cells_of first) (cells_of others)
end-added first others i short = added_cells-all (cells_of first) (cells_of others) i (elim short [
  | inl l ↦ inl (omega (arith, length-map first dense_pair))
  | inr l ↦ inr (omega (arith, length-map others dense_pair))
])
