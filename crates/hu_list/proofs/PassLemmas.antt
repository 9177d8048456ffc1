-- Passes over cells and tails, a cell at a time.
use Rattle.std.proofs.Common.{◌≡◌, ℕ, zero, suc, ◌+◌, ◌<◌, ◌≤◌, Bool, true, false, cond, eqb, ◌||◌, ℤ, unsigned_abs, ◌+ℤ◌, List, [], ◌∷◌, length, get_or, drop}
use Rattle.std.proofs.Common.{inl, inr, refl, sym, ap, ◌∙◌, subst, arith, add-one, sum_by}
use Rattle.std.specs.List.{AllByRecursion}
use Rattle.std.proofs.Math.Bool.{or-true}
use Rattle.std.proofs.lemmas.Bool.{ne_eqb, eq-eqb, cases_eq}
use Rattle.std.proofs.lemmas.List.{drop_more}
use Rattle.std.proofs.lemmas.Int.{ints}
use Rattle.std.proofs.lemmas.List.Sums.{sum_by-cons}
use Rattle.hu_kind.specs.Order.{Ascend}
use Rattle.hu_kind.specs.Record.{items_in, has, absolute_of}
use Rattle.hu_kind.proofs.lemmas.Earned.{positive_part-within}
use Rattle.hu_kind.proofs.lemmas.Occurring.{at_member, has-member}
use Rattle.hu_totals.specs.declared.ranked.Dense.{Dense}
use Rattle.hu_totals.specs.View.{dense_pair, cells_of}
use Rattle.hu_totals.specs.Cells.{among, kept_gain}
use Rattle.hu_totals.proofs.lemmas.KeptLemmas.{kept_gain-within}
use Rattle.hu_list.specs.declared.tail.Tail.{Tail}
use Rattle.hu_list.specs.Tails.{TailOf, share, size_of}
use Rattle.hu_list.specs.declared.sums.Sum.{Sum}
use Rattle.hu_list.specs.Passes.{met, met_in, gaining, summing, sum_with, SumsFit}
use Rattle.hu_list.specs.View.{tail_of, tails_of}
use Rattle.hu_list.proofs.ShareLemmas.{share-within}

module _ {A : Type 0} (make : ℕ × ℤ → List (ℕ × ℤ) → A → A) where
  -- a rank below all cells has what it had
  pub met-below : (z : ℕ) (cells : List (ℕ × ℤ)) (a : A) → AllByRecursion (λ y. z < y) (items_in cells) → met make z cells a ≡ a
  met-below z [] a below = refl
  met-below z (cell ∷ cells) a below = let other : eqb z cell.0 ≡ false =
      ne_eqb z cell.0 (λ e. let low = below.0 in absurd (omega arith)) in rw other (met-below z cells a below.1)

  -- the first cell is met before the others, or after them
  pub met-first : (z : ℕ) (cell : ℕ × ℤ) (cells : List (ℕ × ℤ)) (a : A) → AllByRecursion (λ y. cell.0 < y) (items_in cells)
      → met make z cells (cond (eqb z cell.0) (make cell cells a) a) ≡ met make z (cell ∷ cells) a
  met-first z cell cells a up = elim (cases_eq z cell.0) [
    | inl e ↦
        let here : eqb z cell.0 ≡ true = eq-eqb z cell.0 e in
        rw here (met-below z cells (make cell cells a) (subst (λ x. AllByRecursion (λ y. x < y) (items_in cells)) (sym e) up))
    | inr ne ↦ let other : eqb z cell.0 ≡ false = ne_eqb z cell.0 ne in rw other refl
  ]

  pub met-last : (z : ℕ) (cell : ℕ × ℤ) (cells : List (ℕ × ℤ)) (a : A) → AllByRecursion (λ y. cell.0 < y) (items_in cells)
      → met make z (cell ∷ cells) a ≡ cond (eqb z cell.0) (make cell cells (met make z cells a)) (met make z cells a)
  met-last z cell cells a up = elim (cases_eq z cell.0) [
    | inl e ↦
        let here : eqb z cell.0 ≡ true = eq-eqb z cell.0 e in
        let same = met-below z cells a (subst (λ x. AllByRecursion (λ y. x < y) (items_in cells)) (sym e) up) in
        rw here (ap (make cell cells) (sym same))
    | inr ne ↦ let other : eqb z cell.0 ≡ false = ne_eqb z cell.0 ne in rw other refl
  ]

-- ---- the cells of a record from a place on

-- the rank at a place is below those after it
pub rank-below : (cells : List Dense) (i : ℕ) (d : Dense) → Ascend (items_in (cells_of cells)) → i < length cells
    → AllByRecursion (λ y. (get_or cells i d).rank < y) (items_in (cells_of (drop (i + 1) cells)))
rank-below [] i d up within = absurd (omega arith)
rank-below (cell ∷ cells) zero d up within = up.0
rank-below (cell ∷ cells) (suc i) d up within = rw add-one (let ih = rank-below cells i d up.1 (omega arith) in rw add-one at ih)

module _ (cells : List Dense) (i : ℕ) (d : Dense) (up : Ascend (items_in (cells_of cells))) (within : i < length cells) where
  pub split-at : cells_of (drop i cells) ≡ dense_pair (get_or cells i d) ∷ cells_of (drop (i + 1) cells)
  split-at = ap cells_of (drop_more cells i d within)

  pub has-here : has (get_or cells i d).rank (cells_of (drop i cells)) ≡ true
  has-here =
      ap (has (get_or cells i d).rank) split-at ∙ (let here : eqb (get_or cells i d).rank (get_or cells i d).rank
      ≡ true = eq-eqb (get_or cells i d).rank (get_or cells i d).rank refl in rw here refl)

  -- a rank that stands later
  pub apart-later : (z : ℕ) → has z (cells_of (drop (i + 1) cells)) ≡ true → eqb z (get_or cells i d).rank ≡ false
  apart-later z h =
      let low = at_member (λ y. (get_or cells i d).rank < y) z _ (rank-below cells i d up within) (has-member z (cells_of (drop (i + 1) cells)) h) in
      ne_eqb z (get_or cells i d).rank (λ e. absurd (omega arith))

  pub has-later : (z : ℕ) → has z (cells_of (drop (i + 1) cells)) ≡ true → has z (cells_of (drop i cells)) ≡ true
  has-later z h = ap (has z) split-at ∙ ap (λ b. eqb z (get_or cells i d).rank || b) h ∙ or-true (eqb z (get_or cells i d).rank)

  -- a pass goes on with the next cell
  pub pass-next : {A : Type 0} (make : ℕ × ℤ → List (ℕ × ℤ) → A → A) (z : ℕ) (old new : A)
      → new ≡ cond (eqb z (get_or cells i d).rank) (make (dense_pair (get_or cells i d)) (cells_of (drop (i + 1) cells)) old) old
      → met make z (cells_of (drop (i + 1) cells)) new ≡ met make z (cells_of (drop i cells)) old
  pass-next make z old new is =
      ap (met make z (cells_of (drop (i + 1) cells))) is
      ∙ met-first make z (dense_pair (get_or cells i d)) (cells_of (drop (i + 1) cells)) old (rank-below cells i d up within)
      ∙ sym (ap (λ cs. met make z cs old) split-at)

  -- and backward with the one before
  pub pass-back : {A : Type 0} (make : ℕ × ℤ → List (ℕ × ℤ) → A → A) (z : ℕ) (first old new : A) → old ≡ met make z (cells_of (drop (i + 1) cells)) first
      → new ≡ cond (eqb z (get_or cells i d).rank) (make (dense_pair (get_or cells i d)) (cells_of (drop (i + 1) cells)) old) old
      → new ≡ met make z (cells_of (drop i cells)) first
  pass-back make z first old new before is =
      is
      ∙ ap (λ a. cond (eqb z (get_or cells i d).rank) (make (dense_pair (get_or cells i d)) (cells_of (drop (i + 1) cells)) a) a) before
      ∙ sym (met-last make z (dense_pair (get_or cells i d)) (cells_of (drop (i + 1) cells)) first (rank-below cells i d up within))
      ∙ sym (ap (λ cs. met make z cs first) split-at)

-- ---- tails from a place on

-- what holds of each tail holds of that at a place
pub tail-at : (P : TailOf → Type 0) (tails : List Tail) (i : ℕ) (d : Tail) → AllByRecursion P (tails_of tails)
    → i < length tails → P (tail_of (get_or tails i d))
tail-at P [] i d all within = absurd (omega arith)
tail-at P (tail ∷ tails) zero d all within = all.0
tail-at P (tail ∷ tails) (suc i) d all within = tail-at P tails i d all.1 (omega arith)

module _ (tails : List Tail) (i : ℕ) (d : Tail) (within : i < length tails) where
  pub tails-split : tails_of (drop i tails) ≡ tail_of (get_or tails i d) ∷ tails_of (drop (i + 1) tails)
  tails-split = ap tails_of (drop_more tails i d within)

  pub sizes-split : sum_by size_of (tails_of (drop i tails)) ≡ size_of (tail_of (get_or tails i d)) + sum_by size_of (tails_of (drop (i + 1) tails))
  sizes-split = ap (sum_by size_of) tails-split ∙ sum_by-cons size_of (tail_of (get_or tails i d)) (tails_of (drop (i + 1) tails))

  pub tails-next : {A : Type 0} (make : TailOf → ℕ × ℤ → List (ℕ × ℤ) → A → A) (z : ℕ) (old new : A)
      → new ≡ met (make (tail_of (get_or tails i d))) z (tail_of (get_or tails i d)).cells old
      → met_in make z (tails_of (drop (i + 1) tails)) new ≡ met_in make z (tails_of (drop i tails)) old
  tails-next make z old new is = ap (met_in make z (tails_of (drop (i + 1) tails))) is ∙ sym (ap (λ ts. met_in make z ts old) tails-split)

-- ---- how far a pass goes

met-within : {A : Type 0} (R : A → A → Type 0) (make : ℕ × ℤ → List (ℕ × ℤ) → A → A) → ((a : A) → R a a)
    → ((cell : ℕ × ℤ) (cells : List (ℕ × ℤ)) (a : A) → R a (make cell cells a))
    → (z : ℕ) (cells : List (ℕ × ℤ)) (a : A) → R a (met make z cells a)
met-within R make same one z [] a = same a
met-within R make same one z (cell ∷ cells) a = by (eqb z cell.0) (met-within R make same one z cells a)
  where
    by : (b : Bool) → R a (met make z cells a) → R a (cond b (make cell cells a) (met make z cells a))
    by true later = one cell cells a
    by false later = later

pub gaining-within : (keep : List ℕ) (tail : TailOf) (z : ℕ) (a : ℤ) → unsigned_abs (met (gaining keep tail) z tail.cells a) ≤ unsigned_abs a + size_of tail
gaining-within keep tail z a =
    met-within (λ x y. unsigned_abs y ≤ unsigned_abs x + size_of tail) (gaining keep tail) (λ x. omega arith)
    (λ cell cells x. by (among cell.0 keep) x) z tail.cells a
  where
    by : (b : Bool) (x : ℤ) → unsigned_abs (cond b (x +ℤ share keep tail) x) ≤ unsigned_abs x + size_of tail
    by true x = omega (arith, ints, share-within keep tail)
    by false x = omega arith

-- sums fit beside a tail
pub record Sums (sum new : Sum) (size : ℕ) : Type 0 where
  pub support : new.support ≤ sum.support + 1
  pub utility : unsigned_abs new.utility ≤ unsigned_abs sum.utility + size
  pub bound : unsigned_abs new.bound ≤ unsigned_abs sum.bound + size

sums-none : (sum : Sum) (size : ℕ) → Sums sum sum size
sums-none sum size = record { support = omega arith; utility = omega arith; bound = omega arith }

pub summing-within : (keep : List ℕ) (tail : TailOf) (z : ℕ) (cells : List (ℕ × ℤ)) (a : Sum) → unsigned_abs tail.own + absolute_of cells ≤ size_of tail
    → Sums a (met (summing keep tail) z cells a) (size_of tail)
summing-within keep tail z [] a fits = sums-none a (size_of tail)
summing-within keep tail z (cell ∷ cells) a fits =
    let split = sum_by-cons (λ (c : ℕ × ℤ). unsigned_abs c.1) cell cells in
    by (eqb z cell.0) (among cell.0 keep) (omega (arith, split, fits)) (summing-within keep tail z cells a (omega (arith, split, fits)))
  where
    by : (b m : Bool) → unsigned_abs tail.own + unsigned_abs cell.1 + absolute_of cells ≤ size_of tail
        → Sums a (met (summing keep tail) z cells a) (size_of tail)
        → Sums a (cond b (cond m (sum_with a (tail.own +ℤ cell.1) (kept_gain keep cells)) a) (met (summing keep tail) z cells a)) (size_of tail)
    by true true low later =
        let rest = kept_gain-within keep cells in
        record {
          support = omega arith;
          utility = omega (arith, ints, low);
          bound = omega (arith, ints, low, rest, positive_part-within (tail.own +ℤ cell.1 +ℤ kept_gain keep cells));
        }
    by true false low later = sums-none a (size_of tail)
    by false m low later = later

-- a tail is within all tails
pub size-at : (tails : List Tail) (i : ℕ) (d : Tail) → i < length tails → size_of (tail_of (get_or tails i d)) ≤ sum_by size_of (tails_of tails)
size-at [] i d within = absurd (omega arith)
size-at (tail ∷ tails) zero d within = omega (arith, sum_by-cons size_of (tail_of tail) (tails_of tails))
size-at (tail ∷ tails) (suc i) d within = omega (arith, sum_by-cons size_of (tail_of tail) (tails_of tails), size-at tails i d (omega arith))

-- sums fit beside less
pub fits-less : (sum : Sum) (size less : ℕ) → less ≤ size → SumsFit sum size → SumsFit sum less
fits-less sum size less low fits = let u = fits.utility in let b =
    fits.bound in record { support = fits.support; utility = omega (arith, low, u); bound = omega (arith, low, b) }
