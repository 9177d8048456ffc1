-- The sums of the cells that are left, by the first of them.
use Rattle.std.proofs.Common.{◌≡◌, ℕ, ◌+◌, ◌<◌, ◌+ℤ◌, unsigned_abs, List, ◌∷◌, length, drop, get_or, ap, ◌∙◌, refl, add-one, drop-cons}
use Rattle.std.proofs.lemmas.List.Sums.{sum_by-cons}
use Rattle.hu_kind.specs.declared.item.Cell.{Cell}
use Rattle.hu_kind.specs.Cell.{pair_of, pairs_of}
use Rattle.hu_kind.specs.Record.{absolute_of, total, gain, positive_part}

drop-first : (cells : List Cell) (i : ℕ) (d : Cell) → i < length cells → drop i cells ≡ get_or cells i d ∷ drop (i + 1) cells
drop-first cells i d within = rw (add-one, drop-cons cells i d) refl

pub absolute-drop : (cells : List Cell) (i : ℕ) (d : Cell) → i < length cells
    → absolute_of (pairs_of (drop i cells)) ≡ unsigned_abs (get_or cells i d).value + absolute_of (pairs_of (drop (i + 1) cells))
absolute-drop cells i d within =
    ap (λ left. absolute_of (pairs_of left)) (drop-first cells i d within)
    ∙ sum_by-cons (λ pair. unsigned_abs pair.1) (pair_of (get_or cells i d)) (pairs_of (drop (i + 1) cells))

pub total-drop : (cells : List Cell) (i : ℕ) (d : Cell) → i < length cells
    → total (pairs_of (drop i cells)) ≡ (get_or cells i d).value +ℤ total (pairs_of (drop (i + 1) cells))
total-drop cells i d within = ap (λ left. total (pairs_of left)) (drop-first cells i d within)

pub gain-drop : (cells : List Cell) (i : ℕ) (d : Cell) → i < length cells
    → gain (pairs_of (drop i cells)) ≡ positive_part (get_or cells i d).value +ℤ gain (pairs_of (drop (i + 1) cells))
gain-drop cells i d within = ap (λ left. gain (pairs_of left)) (drop-first cells i d within)
