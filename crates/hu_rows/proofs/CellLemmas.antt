-- The cells of some ranks, and those after a rank.
use Rattle.std.proofs.Common.{◌≡◌, ℕ, ◌<◌, ◌≤◌, Bool, true, false, cond, eqb, nat_lt, ◌&&◌, ◌||◌, ℤ, unsigned_abs, ◌+ℤ◌, List, []}
use Rattle.std.proofs.Common.{◌∷◌, refl, ap, ◌∙◌, arith}
use Rattle.std.specs.List.{AllByRecursion}
use Rattle.std.proofs.lemmas.Bool.{ne_eqb, ltb-true}
use Rattle.std.proofs.lemmas.List.Sums.{sum_by-cons}
use Rattle.hu_kind.specs.Order.{Ascend}
use Rattle.hu_kind.specs.Record.{has, holds, value_of, values_of, items_in, absolute_of}
use Rattle.hu_totals.specs.Cells.{after}
use Rattle.hu_rows.specs.Handed.{only}
use Rattle.hu_kind.proofs.lemmas.Each.{each-weaker}

-- ---- the cells of some ranks

module _ (p : ℕ → Bool) where
  -- a cell that is left out says nothing of ranks that are kept
  other : (s : ℕ) (cell : ℕ × ℤ) → p s ≡ true → p cell.0 ≡ false → eqb s cell.0 ≡ false
  other s cell kept out = ne_eqb s cell.0 (λ e. let there : p s ≡ false = ap p e ∙ out in cc)

  has-only : (s : ℕ) (cells : List (ℕ × ℤ)) → p s ≡ true → has s (only p cells) ≡ has s cells
  has-only s [] kept = refl
  has-only s (cell ∷ cells) kept = by (p cell.0) refl (has-only s cells kept)
    where
      by : (b : Bool) → p cell.0 ≡ b → has s (only p cells) ≡ has s cells → has s (cond b (cell ∷ only p cells) (only p cells)) ≡ has s (cell ∷ cells)
      by true h ih = ap (λ r. eqb s cell.0 || r) ih
      by false h ih = let no : eqb s cell.0 ≡ false = other s cell kept h in rw no ih

  value_of-only : (s : ℕ) (cells : List (ℕ × ℤ)) → p s ≡ true → value_of s (only p cells) ≡ value_of s cells
  value_of-only s [] kept = refl
  value_of-only s (cell ∷ cells) kept = by (p cell.0) refl (value_of-only s cells kept)
    where
      by : (b : Bool) → p cell.0 ≡ b → value_of s (only p cells) ≡ value_of s cells
          → value_of s (cond b (cell ∷ only p cells) (only p cells)) ≡ value_of s (cell ∷ cells)
      by true h ih = ap (λ r. cond (eqb s cell.0) cell.1 r) ih
      by false h ih = let no : eqb s cell.0 ≡ false = other s cell kept h in rw no ih

  pub holds-only : (set : List ℕ) (cells : List (ℕ × ℤ)) → AllByRecursion (λ s. p s ≡ true) set → holds set (only p cells) ≡ holds set cells
  holds-only [] cells kept = refl
  holds-only (s ∷ set) cells kept = λ j. has-only s cells kept.0 j && holds-only set cells kept.1 j

  pub values_of-only : (set : List ℕ) (cells : List (ℕ × ℤ)) → AllByRecursion (λ s. p s ≡ true) set → values_of set (only p cells) ≡ values_of set cells
  values_of-only [] cells kept = refl
  values_of-only (s ∷ set) cells kept = λ j. value_of-only s cells kept.0 j +ℤ values_of-only set cells kept.1 j

  pub each-only : (P : ℕ → Type 0) (cells : List (ℕ × ℤ)) → AllByRecursion P (items_in cells)
      → AllByRecursion (λ rank. P rank × (p rank ≡ true)) (items_in (only p cells))
  each-only P [] all = tt
  each-only P (cell ∷ cells) all = by (p cell.0) refl (each-only P cells all.1)
    where
      by : (b : Bool) → p cell.0 ≡ b → AllByRecursion (λ rank. P rank × (p rank ≡ true)) (items_in (only p cells))
          → AllByRecursion (λ rank. P rank × (p rank ≡ true)) (items_in (cond b (cell ∷ only p cells) (only p cells)))
      by true h ih = ((all.0, h), ih)
      by false h ih = ih

  -- what holds of each rank holds of those that are kept
  pub each-part : (P : ℕ → Type 0) (cells : List (ℕ × ℤ)) → AllByRecursion P (items_in cells) → AllByRecursion P (items_in (only p cells))
  each-part P cells all = each-weaker (λ rank. P rank × (p rank ≡ true)) P (items_in (only p cells)) (λ rank both. both.0) (each-only P cells all)

  pub Ascend-only : (cells : List (ℕ × ℤ)) → Ascend (items_in cells) → Ascend (items_in (only p cells))
  Ascend-only [] up = tt
  Ascend-only (cell ∷ cells) up = by (p cell.0) (Ascend-only cells up.1)
    where
      by : (b : Bool) → Ascend (items_in (only p cells)) → Ascend (items_in (cond b (cell ∷ only p cells) (only p cells)))
      by true ih = (each-part (λ y. cell.0 < y) cells up.0, ih)
      by false ih = ih

  pub absolute_of-only : (cells : List (ℕ × ℤ)) → absolute_of (only p cells) ≤ absolute_of cells
  absolute_of-only [] = omega arith
  absolute_of-only (cell ∷ cells) = by (p cell.0) (absolute_of-only cells)
    where
      by : (b : Bool) → absolute_of (only p cells) ≤ absolute_of cells → absolute_of (cond b (cell ∷ only p cells) (only p cells)) ≤ absolute_of (cell ∷ cells)
      by true ih = omega (arith, sum_by-cons (λ (c : ℕ × ℤ). unsigned_abs c.1) cell (only p cells), sum_by-cons (λ (c : ℕ × ℤ). unsigned_abs c.1) cell cells)
      by false ih = omega (arith, sum_by-cons (λ (c : ℕ × ℤ). unsigned_abs c.1) cell cells)

-- ---- the cells after a rank

-- what holds of each rank holds of those after z, and these are after z
pub each-after-both : (P : ℕ → Type 0) (z : ℕ) (cells : List (ℕ × ℤ)) → AllByRecursion P (items_in cells)
    → AllByRecursion (λ rank. P rank × (z < rank)) (items_in (after z cells))
each-after-both P z cells all =
    each-weaker (λ rank. P rank × (nat_lt z rank ≡ true)) (λ rank. P rank × (z < rank)) (items_in (after z cells))
    (λ rank both. (both.0, ltb-true z rank both.1)) (each-only (nat_lt z) P cells all)
