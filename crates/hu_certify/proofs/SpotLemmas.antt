-- Steps over the places of a prefix, and that their sums fit.
use Rattle.std.proofs.Common.{◌≡◌, ℕ, zero, suc, ◌+◌, ◌-◌, ◌<◌, ◌≤◌, eqb, ℤ, ◌+ℤ◌}
use Rattle.std.proofs.Common.{pos, ◌≤ℤ◌, unsigned_abs, List, [], ◌∷◌, ◌++◌, map, length, take, drop, get_or}
use Rattle.std.proofs.Common.{refl, sym, ap, ◌∙◌, inl, inr, arith, sum_by, append_assoc}
use Rattle.std.proofs.lemmas.Bool.{cases_Bool}
use Rattle.std.proofs.lemmas.Int.{ints}
use Rattle.std.proofs.lemmas.List.{drop_more, take_more, take_all, map-append, length-drop}
use Rattle.std.proofs.lemmas.List.Sums.{sum_by-cons}
use Rattle.hu_kind.specs.Record.{has, value_of, absolute_of, positive_part, gain}
use Rattle.hu_kind.proofs.lemmas.Earned.{gain-within, positive_part-within, positive_part-upper}
use Rattle.hu_totals.specs.declared.ranked.Dense.{Dense}
use Rattle.hu_totals.specs.View.{dense_pair}
use Rattle.hu_certify.specs.declared.place.Place.{Place}
use Rattle.hu_certify.specs.Spots.{SpotOf, spot_of, spots_of, past, grown, narrowed, size_of, HasRoom, most}

-- ---- steps

pub spots-drop : (places : List Place) (i : ℕ) (d : Place) → i < length places
    → spots_of (drop i places) ≡ spot_of (get_or places i d) ∷ spots_of (drop (i + 1) places)
spots-drop places i d within = ap spots_of (drop_more places i d within)

pub spots-take : (places : List Place) (i : ℕ) (d : Place) → i < length places
    → spots_of (take (i + 1) places) ≡ spots_of (take i places) ++ spot_of (get_or places i d) ∷ []
spots-take places i d within = ap spots_of (take_more places i d within) ∙ map-append spot_of (take i places) (get_or places i d ∷ [])

pub sizes-drop : (places : List Place) (i : ℕ) (d : Place) → i < length places
    → sum_by size_of (spots_of (drop i places)) ≡ size_of (spot_of (get_or places i d)) + sum_by size_of (spots_of (drop (i + 1) places))
sizes-drop places i d within = ap (sum_by size_of) (spots-drop places i d within)
    ∙ sum_by-cons size_of (spot_of (get_or places i d)) (spots_of (drop (i + 1) places))

pub size-within : (places : List Place) (i : ℕ) (d : Place) → i < length places → size_of (spot_of (get_or places i d)) ≤ sum_by size_of (spots_of places)
size-within [] i d within = absurd (omega arith)
size-within (p ∷ ps) zero d within = omega (arith, sum_by-cons size_of (spot_of p) (spots_of ps))
size-within (p ∷ ps) (suc i) d within = omega (arith, sum_by-cons size_of (spot_of p) (spots_of ps), size-within ps i d (omega arith))

pub dense-drop : (cells : List Dense) (i : ℕ) (d : Dense) → i < length cells
    → map dense_pair (drop i cells) ≡ dense_pair (get_or cells i d) ∷ map dense_pair (drop (i + 1) cells)
dense-drop cells i d within = ap (map dense_pair) (drop_more cells i d within)

pub dense-sizes : (cells : List Dense) (i : ℕ) (d : Dense) → i < length cells
    → absolute_of (map dense_pair (drop i cells)) ≡ unsigned_abs (get_or cells i d).value + absolute_of (map dense_pair (drop (i + 1) cells))
dense-sizes cells i d within =
    ap absolute_of (dense-drop cells i d within) ∙ sum_by-cons (λ (cell : ℕ × ℤ). unsigned_abs cell.1) (dense_pair (get_or cells i d))
    (map dense_pair (drop (i + 1) cells))

pub dense-gains : (cells : List Dense) (i : ℕ) (d : Dense) → i < length cells
    → gain (map dense_pair (drop i cells)) ≡ positive_part (get_or cells i d).value +ℤ gain (map dense_pair (drop (i + 1) cells))
dense-gains cells i d within = ap gain (dense-drop cells i d within)

-- ---- narrowing

narrowed-append : (rank : ℕ) (ps qs : List SpotOf) → narrowed rank (ps ++ qs) ≡ narrowed rank ps ++ narrowed rank qs
narrowed-append rank [] qs = refl
narrowed-append rank (p ∷ ps) qs =
    ap (λ more. grown rank p ++ more) (narrowed-append rank ps qs) ∙ sym (append_assoc (grown rank p) (narrowed rank ps) (narrowed rank qs))

append-nil' : {A : Type 0} (xs : List A) → xs ++ [] ≡ xs
append-nil' [] = refl
append-nil' (x ∷ xs) = ap (λ ys. x ∷ ys) (append-nil' xs)

pub narrowed-more : (rank : ℕ) (places : List Place) (i : ℕ) (d : Place) → i < length places
    → narrowed rank (spots_of (take (i + 1) places)) ≡ narrowed rank (spots_of (take i places)) ++ grown rank (spot_of (get_or places i d))
narrowed-more rank places i d within =
    let one = spot_of (get_or places i d) in
    ap (narrowed rank) (spots-take places i d within) ∙ narrowed-append rank (spots_of (take i places)) (one ∷ [])
    ∙ ap (λ more. narrowed rank (spots_of (take i places)) ++ more) (append-nil' (grown rank one))

-- ---- room

past-size : (rank : ℕ) (cells : List (ℕ × ℤ)) → unsigned_abs (value_of rank cells) + absolute_of (past rank cells) ≤ absolute_of cells
past-size rank [] = omega arith
past-size rank (cell ∷ cells) =
    let sizes = sum_by-cons (λ (c : ℕ × ℤ). unsigned_abs c.1) cell cells in
    let ih = past-size rank cells in
    elim (cases_Bool (eqb rank cell.0)) [ inl h ↦ simp h (omega (arith, sizes)) | inr h ↦ simp h (omega (arith, sizes, ih)) ]

grown-size : (rank : ℕ) (spot : SpotOf) → sum_by size_of (grown rank spot) ≤ size_of spot
grown-size rank spot =
    let less = past-size rank spot.0 in
    let one = sum_by-cons size_of (past rank spot.0, spot.1 +ℤ value_of rank spot.0) [] in
    elim (cases_Bool (has rank spot.0)) [ inl h ↦ simp h (omega (arith, ints, less, one)) | inr h ↦ simp h (omega arith) ]

pub sizes-append : (ps qs : List SpotOf) → sum_by size_of (ps ++ qs) ≡ sum_by size_of ps + sum_by size_of qs
sizes-append [] qs = omega arith
sizes-append (p ∷ ps) qs = omega (arith, sum_by-cons size_of p (ps ++ qs), sum_by-cons size_of p ps, sizes-append ps qs)

pub narrowed-size : (rank : ℕ) (spots : List SpotOf) → sum_by size_of (narrowed rank spots) ≤ sum_by size_of spots
narrowed-size rank [] = omega arith
narrowed-size rank (spot ∷ spots) =
    omega (arith, sizes-append (grown rank spot) (narrowed rank spots), sum_by-cons size_of spot spots, grown-size rank spot, narrowed-size rank spots)

pub HasRoom-narrowed : (rank : ℕ) (spots : List SpotOf) → HasRoom spots → HasRoom (narrowed rank spots)
HasRoom-narrowed rank spots room = omega (arith, narrowed-size rank spots, room)

-- ---- sums over spots fit

pub most-size : (spots : List SpotOf) → (pos 0 ≤ℤ most spots) × (unsigned_abs (most spots) ≤ sum_by size_of spots)
most-size [] = (omega (arith, ints), omega arith)
most-size (s ∷ ss) =
    let ih = most-size ss in
    let least = (positive_part-upper (s.1 +ℤ gain s.0)).1 in
    let within = positive_part-within (s.1 +ℤ gain s.0) in
    let gained = gain-within s.0 in
    (omega (arith, ints, ih.0, least), omega (arith, ints, ih.0, ih.1, least, within, gained, sum_by-cons size_of s ss))

-- what stands from a place on, taken as a range
pub range_left : {A : Type 0} (xs : List A) (from : ℕ) → take (length xs - from) (drop from xs) ≡ drop from xs
range_left xs from = take_all (length xs - from) (drop from xs) (omega (arith, length-drop from xs))
