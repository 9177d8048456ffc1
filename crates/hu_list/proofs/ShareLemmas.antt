-- Shares of tails: what sets of kept ranks earn is within them, and they are within the absolute values.
use Rattle.std.proofs.Common.{◌≡◌, ℕ, ◌+◌, ◌<◌, ◌≤◌, cond, pos, unsigned_abs, ◌+ℤ◌, List, [], ◌∷◌}
use Rattle.std.proofs.Common.{length, get_or, take, ap, arith}
use Rattle.std.proofs.lemmas.Int.{ints}
use Rattle.hu_kind.specs.Record.{positive_part}
use Rattle.hu_kind.proofs.lemmas.Earned.{positive_part-within}
use Rattle.hu_totals.specs.declared.ranked.Dense.{Dense}
use Rattle.hu_totals.specs.View.{dense_pair, cells_of}
use Rattle.hu_totals.specs.Cells.{among, kept_gain}
use Rattle.hu_totals.proofs.lemmas.KeptLemmas.{kept_gain-within}
use Rattle.hu_totals.proofs.lemmas.GainLemmas.{cells_of-more, kept_gain-append}
use Rattle.hu_list.specs.Tails.{TailOf, share, size_of}

-- ---- shares, a cell more

pub share-within : (keep : List ℕ) (tail : TailOf) → unsigned_abs (share keep tail) ≤ size_of tail
share-within keep tail = omega (arith, ints, positive_part-within (tail.own +ℤ kept_gain keep tail.cells), kept_gain-within keep tail.cells)

pub kept_gain-more : (keep : List ℕ) (cells : List Dense) (i : ℕ) (d : Dense) → i < length cells
    → kept_gain keep (cells_of (take (i + 1) cells)) ≡ kept_gain keep (cells_of (take i cells))
    +ℤ cond (among (get_or cells i d).rank keep) (positive_part (get_or cells i d).value) (pos 0)
kept_gain-more keep cells i d within =
    let more = ap (kept_gain keep) (cells_of-more cells i d within) in
    omega (arith, ints, more, kept_gain-append keep (cells_of (take i cells)) (dense_pair (get_or cells i d) ∷ []))

-- ---- the cells from a place on
