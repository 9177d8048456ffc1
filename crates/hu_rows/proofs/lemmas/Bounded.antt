-- What rows tell of ranks bounds what sets of their ranks earn.
use Rattle.std.proofs.Common.{◌≡◌, ℕ, ◌<◌, ◌≤◌, Bool, true, false, cond, ◌&&◌, IsTrue, ℤ, pos, negsuc, ◌+ℤ◌, ◌≤ℤ◌, List, [], ◌∷◌, inl, inr, refl, sym, ap, ◌∙◌}
use Rattle.std.proofs.Common.{subst, arith}
use Rattle.std.specs.List.{AllByRecursion}
use Rattle.std.proofs.lemmas.Bool.{and_parts}
use Rattle.std.proofs.lemmas.Int.{ints}
use Rattle.hu_kind.specs.Order.{Ascend}
use Rattle.hu_kind.specs.Record.{has, holds, value_of, values_of, gain, positive_part}
use Rattle.hu_kind.proofs.lemmas.Members.{Member}
use Rattle.hu_rows.specs.Rows.{RowOf, AreRows, over, over_row, count_over, ranks_of}
use Rattle.hu_rows.specs.Bounds.{local_share, local_bound, subtree_share, IsKeptSet}
use Rattle.hu_rows.specs.Tally.{most, most_with, tail_most, most_over, tail_over}
use Rattle.hu_rows.proofs.BoundLemmas.{over-local, over_row-subtree}
use Rattle.hu_totals.specs.Cells.{after, among, kept_gain}
use Rattle.hu_totals.proofs.lemmas.AfterLemmas.{holds-after}
use Rattle.hu_totals.proofs.lemmas.KeptLemmas.{positive-least, among-member}

-- ---- sets as kept sets of themselves

all-among : (keep set : List ℕ) → ((z : ℕ) → Member z set → Member z keep) → AllByRecursion (λ rank. IsTrue (among rank keep)) set
all-among keep [] sub = tt
all-among keep (s ∷ set) sub = (among-member s keep (sub s (inl refl)), all-among keep set (λ z m. sub z (inr m)))

kept-itself : (set : List ℕ) → Ascend set → IsKeptSet set set
kept-itself set up = record { ascending = up; kept = all-among set set (λ z m. m) }

-- ---- gains of kept ranks are within all gains

part-below : (b : Bool) (z : ℤ) → cond b (positive_part z) (pos 0) ≤ℤ positive_part z
part-below true z = omega (arith, ints)
part-below false z = positive-least z

kept_gain-below : (keep : List ℕ) (cells : List (ℕ × ℤ)) → kept_gain keep cells ≤ℤ gain cells
kept_gain-below keep [] = omega (arith, ints)
kept_gain-below keep (cell ∷ cells) = omega (arith, ints, part-below (among cell.0 keep) cell.1, kept_gain-below keep cells)

positive-rises : (x y : ℤ) → x ≤ℤ y → positive_part x ≤ℤ positive_part y
positive-rises (pos m) (pos n) h = h
positive-rises (pos m) (negsuc n) h = absurd (omega (arith, ints))
positive-rises (negsuc m) y h = positive-least y

-- ---- the bound of each rank

local-below : (rows : List RowOf) (keep : List ℕ) (z : ℕ) → local_bound rows keep z ≤ℤ most_over rows z
local-below [] keep z = omega (arith, ints)
local-below (row ∷ rows) keep z = omega (arith, ints, by (has z row.cells), local-below rows keep z)
  where
    by : (b : Bool) → cond b (local_share keep row) (pos 0) ≤ℤ cond b (most row) (pos 0)
    by true = positive-rises (row.before +ℤ kept_gain keep row.cells) (row.before +ℤ gain row.cells) (omega (arith, ints, kept_gain-below keep row.cells))
    by false = omega (arith, ints)

-- no set earns more than any of its ranks is told
pub over-most : (rows : List RowOf) (set : List ℕ) (z : ℕ) → AreRows rows → Ascend set → Member z set → over rows set ≤ℤ most_over rows z
over-most rows set z rules up m =
    omega (arith, ints, over-local set set z rows rules.ascending (kept-itself set up) (among-member z set m), local-below rows set z)

-- ---- the bound of the least rank

over_row-tail : (z s : ℕ) (set : List ℕ) (row : RowOf) → Ascend (ranks_of row) → Ascend (z ∷ s ∷ set)
    → over_row (z ∷ s ∷ set) row ≤ℤ cond (has z row.cells) (tail_most row z) (pos 0)
over_row-tail z s set row up rise = by (after z row.cells) refl
  where
    all : over_row (z ∷ s ∷ set) row ≤ℤ cond (has z row.cells) (subtree_share (z ∷ s ∷ set) z row) (pos 0)
    all = over_row-subtree (z ∷ s ∷ set) (s ∷ set) z row up (kept-itself (z ∷ s ∷ set) rise)

    none : (b c : Bool) → holds (s ∷ set) row.cells ≡ false
        → cond (b && holds (s ∷ set) row.cells) (row.before +ℤ (value_of z row.cells +ℤ values_of (s ∷ set) row.cells)) (pos 0) ≤ℤ cond c (pos 0) (pos 0)
    none true true h = rw h (omega (arith, ints))
    none true false h = rw h (omega (arith, ints))
    none false true h = omega (arith, ints)
    none false false h = omega (arith, ints)

    some : (b : Bool) (rest : ℤ) → kept_gain (z ∷ s ∷ set) (after z row.cells) ≤ℤ rest
        → cond b (subtree_share (z ∷ s ∷ set) z row) (pos 0) ≤ℤ cond b (positive_part (row.before +ℤ value_of z row.cells +ℤ rest)) (pos 0)
    some true rest h = positive-rises (row.before +ℤ value_of z row.cells +ℤ kept_gain (z ∷ s ∷ set) (after z row.cells))
        (row.before +ℤ value_of z row.cells +ℤ rest) (omega (arith, ints))
    some false rest h = omega (arith, ints)

    by : (tail : List (ℕ × ℤ)) → after z row.cells ≡ tail → over_row (z ∷ s ∷ set) row
        ≤ℤ cond (has z row.cells) (most_with (row.before +ℤ value_of z row.cells) (after z row.cells)) (pos 0)
    by [] e = rw e (none (has z row.cells) (has z row.cells) (sym (holds-after z (s ∷ set) row.cells rise.0) ∙ ap (holds (s ∷ set)) e))
    by (cell ∷ cells) e =
        let within : kept_gain (z ∷ s ∷ set) (after z row.cells) ≤ℤ gain (cell ∷ cells) =
        subst (λ cs. kept_gain (z ∷ s ∷ set) (after z row.cells) ≤ℤ gain cs) e (kept_gain-below (z ∷ s ∷ set) (after z row.cells)) in
        let more = some (has z row.cells) (gain (cell ∷ cells)) within in
        subst (λ cs. over_row (z ∷ s ∷ set) row ≤ℤ cond (has z row.cells) (most_with (row.before +ℤ value_of z row.cells) cs) (pos 0)) (sym e)
        (omega (arith, ints, all, more))

-- no set of two or more earns more than its least rank is told of its tails
pub over-tail : (rows : List RowOf) (z s : ℕ) (set : List ℕ) → AreRows rows → Ascend (z ∷ s ∷ set) → over rows (z ∷ s ∷ set) ≤ℤ tail_over rows z
over-tail rows z s set rules rise = each rows rules.ascending
  where
    each : (rows : List RowOf) → AllByRecursion (λ row. Ascend (ranks_of row)) rows → over rows (z ∷ s ∷ set) ≤ℤ tail_over rows z
    each [] up = omega (arith, ints)
    each (row ∷ rows) up = omega (arith, ints, over_row-tail z s set row up.0 rise, each rows up.1)

-- ---- a set that is held has ranks that are

count-rank : (rows : List RowOf) (set : List ℕ) (z : ℕ) → Member z set → count_over rows set ≤ count_over rows (z ∷ [])
count-rank [] set z m = omega arith
count-rank (row ∷ rows) set z m = omega (arith, count-rank rows set z m, by (holds set row.cells) (has z row.cells) refl refl)
  where
    has-member : (z : ℕ) (set : List ℕ) → Member z set → holds set row.cells ≡ true → has z row.cells ≡ true
    has-member z [] m h = absurd m
    has-member z (s ∷ set) (inl e) h = subst (λ r. has r row.cells ≡ true) e (and_parts (has s row.cells) (holds set row.cells) h).0
    has-member z (s ∷ set) (inr n) h = has-member z set n (and_parts (has s row.cells) (holds set row.cells) h).1

    by : (b c : Bool) → holds set row.cells ≡ b → has z row.cells ≡ c → cond b row.count 0 ≤ cond (c && true) row.count 0
    by true true h k = omega arith
    by true false h k = let there = has-member z set m h in cc
    by false true h k = omega arith
    by false false h k = omega arith

pub count-held : (rows : List RowOf) (set : List ℕ) (z : ℕ) → Member z set → 0 < count_over rows set → 0 < count_over rows (z ∷ [])
count-held rows set z m held = omega (arith, count-rank rows set z m)
