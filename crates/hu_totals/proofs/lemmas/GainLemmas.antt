-- What some cells of a record gain over kept ranks.
use Rattle.std.proofs.Common.{[], ◌≡◌, ℕ, ◌+◌, ◌<◌, List, ◌∷◌, ◌++◌, length, get_or, take, ap, ◌∙◌, ◌≤◌, ℤ, unsigned_abs, arith, zero, suc, drop, ◌+ℤ◌, cond}
use Rattle.std.proofs.Common.{pos}
use Rattle.std.proofs.lemmas.List.{take_more, map-append, take-map, drop_more}
use Rattle.std.proofs.lemmas.List.Sums.{sum_by-take-le, sum_by-cons}
use Rattle.std.proofs.lemmas.Int.{ints}
use Rattle.hu_totals.specs.declared.ranked.Dense.{Dense}
use Rattle.hu_totals.specs.View.{dense_pair, cells_of}
use Rattle.hu_totals.specs.Cells.{kept_gain, among}
use Rattle.hu_totals.proofs.lemmas.KeptLemmas.{kept_gain-within}
use Rattle.hu_kind.specs.Record.{absolute_of, positive_part}

pub cells_of-more : (cells : List Dense) (i : ℕ) (d : Dense) → i < length cells → cells_of (take (i + 1) cells)
    ≡ cells_of (take i cells) ++ dense_pair (get_or cells i d) ∷ []
cells_of-more cells i d within = ap cells_of (take_more cells i d within) ∙ map-append dense_pair (take i cells) (get_or cells i d ∷ [])

pub absolute-take : (cells : List Dense) (i : ℕ) → absolute_of (cells_of (take i cells)) ≤ absolute_of (cells_of cells)
absolute-take cells i =
    let same = ap absolute_of (take-map dense_pair i cells) in
    omega (arith, same, sum_by-take-le (λ (c : ℕ × ℤ). unsigned_abs c.1) (cells_of cells) i)

pub absolute-drop : (cells : List Dense) (i : ℕ) → absolute_of (cells_of (drop i cells)) ≤ absolute_of (cells_of cells)
absolute-drop cells zero = omega arith
absolute-drop [] (suc i) = omega arith
absolute-drop (cell ∷ cells) (suc i) = omega (arith, sum_by-cons (λ (c : ℕ × ℤ). unsigned_abs c.1) (dense_pair cell) (cells_of cells), absolute-drop cells i)

pub kept_gain-append : (keep : List ℕ) (cells others : List (ℕ × ℤ)) → kept_gain keep (cells ++ others) ≡ kept_gain keep cells +ℤ kept_gain keep others
kept_gain-append keep [] others = omega (arith, ints)
kept_gain-append keep (cell ∷ cells) others = omega (arith, ints, kept_gain-append keep cells others)

pub kept_gain-take : (keep : List ℕ) (cells : List Dense) (i : ℕ) → unsigned_abs (kept_gain keep (cells_of (take i cells))) ≤ absolute_of (cells_of cells)
kept_gain-take keep cells i = omega (arith, kept_gain-within keep (cells_of (take i cells)), absolute-take cells i)

pub kept_gain-rest : (keep : List ℕ) (cells : List Dense) (i : ℕ) (d : Dense) → i < length cells
    → kept_gain keep (cells_of (drop i cells)) ≡ cond (among (get_or cells i d).rank keep)
    (positive_part (get_or cells i d).value) (pos 0) +ℤ kept_gain keep (cells_of (drop (i + 1) cells))
kept_gain-rest keep cells i d within = ap (λ cs. kept_gain keep (cells_of cs)) (drop_more cells i d within)

-- a value and the gain after it are within all values
pub place-within : (keep : List ℕ) (cells : List Dense) (i : ℕ) (d : Dense) → i < length cells
    → unsigned_abs (get_or cells i d).value + unsigned_abs (kept_gain keep (cells_of (drop (i + 1) cells))) ≤ absolute_of (cells_of cells)
place-within keep cells i d within =
    let rest = cells_of (drop (i + 1) cells) in
    let split = ap (λ cs. absolute_of (cells_of cs)) (drop_more cells i d within) in
    omega (arith, split, sum_by-cons (λ (c : ℕ × ℤ). unsigned_abs c.1) (dense_pair (get_or cells i d)) rest, absolute-drop cells i, kept_gain-within keep rest)

pub rest-within : (keep : List ℕ) (cells : List Dense) (i : ℕ) → unsigned_abs (kept_gain keep (cells_of (drop i cells))) ≤ absolute_of (cells_of cells)
rest-within keep cells i = omega (arith, kept_gain-within keep (cells_of (drop i cells)), absolute-drop cells i)
