-- Lists of ranks, and sums with a gain at each.
use Rattle.std.proofs.Common.{◌≡◌, ◌≢◌, ℕ, zero, suc, ◌+◌, ◌<◌, Bool, true, false, cond, eqb, ◌||◌, ℤ, pos, ◌+ℤ◌}
use Rattle.std.proofs.Common.{List, [], ◌∷◌, length, get_or, set, take, drop, refl, sym, ap, ◌∙◌, subst, inl, inr, arith}
use Rattle.std.specs.List.{AllByRecursion}
use Rattle.std.proofs.lemmas.Bool.{cases_eq, eq-eqb, ne_eqb}
use Rattle.std.proofs.lemmas.Int.{ints}
use Rattle.std.proofs.lemmas.List.{get_or-set_same, get_or-set_other}
use Rattle.std.proofs.lemmas.List.Folds.{list_any_more}
use Rattle.hu_kind.specs.Order.{Ascend}
use Rattle.hu_kind.proofs.lemmas.Each.{each-get}
use Rattle.hu_totals.specs.Cells.{among}
use Rattle.hu_raise.specs.Sums.{sum_at, gain_at}

-- without the first
pub Ascend-drop : (xs : List ℕ) → Ascend xs → Ascend (drop 1 xs)
Ascend-drop [] up = tt
Ascend-drop (x ∷ xs) up = up.1

-- ---- whether a rank is among some

-- a rank below all of them isn't
pub among-below : (rank : ℕ) (ranks : List ℕ) → AllByRecursion (λ other. rank < other) ranks → among rank ranks ≡ false
among-below rank [] below = refl
among-below rank (x ∷ xs) below =
    let other : eqb rank x ≡ false = ne_eqb rank x (λ e. absurd (omega (arith, below.0))) in
    rw other (among-below rank xs below.1)

-- the one at a place is
among-at : (ranks : List ℕ) (i d : ℕ) → i < length ranks → among (get_or ranks i d) ranks ≡ true
among-at [] i d within = absurd (omega arith)
among-at (x ∷ xs) zero d within = rw (eq-eqb x x refl) refl
among-at (x ∷ xs) (suc i) d within = by (eqb (get_or xs i d) x) (among-at xs i d (omega arith))
  where
    by : (b : Bool) → among (get_or xs i d) xs ≡ true → (b || among (get_or xs i d) xs) ≡ true
    by true h = refl
    by false h = h

among-take_more : (rank : ℕ) (ranks : List ℕ) (i d : ℕ) → i < length ranks → among rank (take (i + 1) ranks)
    ≡ (among rank (take i ranks) || eqb rank (get_or ranks i d))
among-take_more rank ranks i d within = list_any_more (λ other. eqb rank other) ranks i d within

-- those before a place don't have its rank
among-take_before : (ranks : List ℕ) (i d : ℕ) → Ascend ranks → i < length ranks → among (get_or ranks i d) (take i ranks) ≡ false
among-take_before [] i d up within = absurd (omega arith)
among-take_before (x ∷ xs) zero d up within = refl
among-take_before (x ∷ xs) (suc i) d up within =
    let above = each-get (λ y. x < y) xs i d up.0 (omega arith) in
    let other : eqb (get_or xs i d) x ≡ false = ne_eqb (get_or xs i d) x (λ e. absurd (omega arith)) in
    rw other (among-take_before xs i d up.1 (omega arith))

among-take_here : (ranks : List ℕ) (i d : ℕ) → i < length ranks → among (get_or ranks i d) (take (i + 1) ranks) ≡ true
among-take_here ranks i d within =
    among-take_more (get_or ranks i d) ranks i d within ∙ by (among (get_or ranks i d) (take i ranks)) (eq-eqb (get_or ranks i d) (get_or ranks i d) refl)
  where
    by : (b : Bool) → eqb (get_or ranks i d) (get_or ranks i d) ≡ true → (b || eqb (get_or ranks i d) (get_or ranks i d)) ≡ true
    by true h = refl
    by false h = h

among-take_other : (rank : ℕ) (ranks : List ℕ) (i d : ℕ) → i < length ranks → rank ≢ get_or ranks i d
    → among rank (take (i + 1) ranks) ≡ among rank (take i ranks)
among-take_other rank ranks i d within other =
    among-take_more rank ranks i d within ∙ by (among rank (take i ranks)) (ne_eqb rank (get_or ranks i d) other)
  where
    by : (b : Bool) → eqb rank (get_or ranks i d) ≡ false → (b || eqb rank (get_or ranks i d)) ≡ b
    by true h = refl
    by false h = h

-- ---- sums with a gain at each of the first ranks

module _ (first sums : List ℤ) (ranks : List ℕ) (i d : ℕ) (gained : ℤ) (up : Ascend ranks) (within : i < length ranks)
    (so_far : (rank : ℕ) → sum_at sums rank ≡ sum_at first rank +ℤ gain_at (take i ranks) gained rank) where
  abbrev here : ℕ
  here = get_or ranks i d

  -- the sum at the next is still the first one
  add-before : sum_at sums here ≡ sum_at first here
  add-before =
      let none : gain_at (take i ranks) gained here ≡ pos 0 = ap {B = ℤ} (λ b. cond b gained (pos 0)) (among-take_before ranks i d up within) in
      let old = so_far here in
      omega (arith, ints)

  -- and with the gain it fits where all do
  pub add-upper : sum_at sums here +ℤ gained ≡ sum_at first here +ℤ gain_at ranks gained here
  add-upper =
      let all : gain_at ranks gained here ≡ gained = ap {B = ℤ} (λ b. cond b gained (pos 0)) (among-at ranks i d within) in
      let old = add-before in
      omega (arith, ints)

  pub add-step : (next : List ℤ) → here < length sums → next ≡ set sums here (sum_at sums here +ℤ gained)
      → (rank : ℕ) → sum_at next rank ≡ sum_at first rank +ℤ gain_at (take (i + 1) ranks) gained rank
  add-step next below is rank = elim (cases_eq rank here) [
    | inl e ↦
        let after : gain_at (take (i + 1) ranks) gained here ≡ gained = ap {B = ℤ} (λ b. cond b gained (pos 0)) (among-take_here ranks i d within) in
        let old = add-before in
        let new : sum_at next here ≡ sum_at sums here +ℤ gained = ap (λ all. sum_at all here) is
        ∙ get_or-set_same sums here (sum_at sums here +ℤ gained) (pos 0) below in
        subst (λ r. sum_at next r ≡ sum_at first r +ℤ gain_at (take (i + 1) ranks) gained r) (sym e) (omega (arith, ints))
    | inr other ↦
        let same : sum_at next rank ≡ sum_at sums rank = ap (λ all. sum_at all rank) is
        ∙ get_or-set_other sums here rank (sum_at sums here +ℤ gained) (pos 0) other in
        same ∙ so_far rank ∙ ap (λ b. sum_at first rank +ℤ cond b gained (pos 0)) (sym (among-take_other rank ranks i d within other))
  ]
