-- What kept cells gain: no less than a set of kept ranks earns in them, and no more than their absolute values.
use Rattle.std.proofs.Common.{◌≡◌, ℕ, ◌<◌, ◌≤◌, Bool, true, false, cond, eqb, ◌&&◌, ℤ, pos, unsigned_abs, ◌+ℤ◌, ◌≤ℤ◌, List, [], ◌∷◌, inl, inr, refl, sym, ◌∙◌}
use Rattle.std.proofs.Common.{subst, arith}
use Rattle.std.specs.List.{AllByRecursion}
use Rattle.std.proofs.lemmas.Bool.{ne_eqb, eq-eqb, and_parts, cases_eq, eqb-true, or_cases}
use Rattle.std.proofs.lemmas.Int.{ints}
use Rattle.std.proofs.lemmas.List.Sums.{sum_by-cons}
use Rattle.std.proofs.Math.Bool.{or-true}
use Rattle.hu_kind.specs.Order.{Ascend}
use Rattle.hu_kind.specs.Record.{has, holds, value_of, values_of, items_in, absolute_of, positive_part}
use Rattle.hu_kind.proofs.lemmas.Earned.{positive_part-upper, positive_part-within}
use Rattle.hu_kind.proofs.lemmas.Occurring.{above_all, at_member, has-member}
use Rattle.hu_kind.proofs.lemmas.Members.{Member}
use Rattle.hu_totals.specs.Cells.{among, kept_gain}

pub positive-least : (z : ℤ) → pos 0 ≤ℤ positive_part z
positive-least z = (positive_part-upper z).1

pub positive-above : (z : ℤ) → z ≤ℤ positive_part z
positive-above z = (positive_part-upper z).0

pub part-least : (b : Bool) (z : ℤ) → pos 0 ≤ℤ cond b (positive_part z) (pos 0)
part-least true z = positive-least z
part-least false z = omega (arith, ints)

pub part-within : (b : Bool) (z : ℤ) → unsigned_abs (cond b (positive_part z) (pos 0)) ≤ unsigned_abs z
part-within true z = positive_part-within z
part-within false z = omega (arith, ints)

pub kept_gain-least : (keep : List ℕ) (cells : List (ℕ × ℤ)) → pos 0 ≤ℤ kept_gain keep cells
kept_gain-least keep [] = omega (arith, ints)
kept_gain-least keep (cell ∷ cells) = omega (arith, ints, part-least (among cell.0 keep) cell.1, kept_gain-least keep cells)

pub kept_gain-within : (keep : List ℕ) (cells : List (ℕ × ℤ)) → unsigned_abs (kept_gain keep cells) ≤ absolute_of cells
kept_gain-within keep [] = omega arith
kept_gain-within keep (cell ∷ cells) =
    omega (
      arith,
      ints,
      sum_by-cons (λ (c : ℕ × ℤ). unsigned_abs c.1) cell cells,
      part-within (among cell.0 keep) cell.1,
      kept_gain-within keep cells,
    )

-- ---- what a set of kept ranks earns is within what kept cells gain

-- ranks above that of the first cell stand among the others
pub values_of-skip : (set : List ℕ) (cell : ℕ × ℤ) (cells : List (ℕ × ℤ)) → AllByRecursion (λ rank. cell.0 < rank) set
    → values_of set (cell ∷ cells) ≡ values_of set cells
values_of-skip [] cell cells above = refl
values_of-skip (s ∷ set) cell cells above =
    let other : eqb s cell.0 ≡ false = ne_eqb s cell.0 (λ e. absurd (omega arith)) in
    rw other (λ j. value_of s cells +ℤ values_of-skip set cell cells above.1 j)

pub holds-skip : (set : List ℕ) (cell : ℕ × ℤ) (cells : List (ℕ × ℤ)) → AllByRecursion (λ rank. cell.0 < rank) set → holds set (cell ∷ cells) ≡ holds set cells
holds-skip [] cell cells above = refl
holds-skip (s ∷ set) cell cells above =
    let other : eqb s cell.0 ≡ false = ne_eqb s cell.0 (λ e. absurd (omega arith)) in
    rw other (λ j. has s cells && holds-skip set cell cells above.1 j)

pub values_of-kept : (keep : List ℕ) (cells : List (ℕ × ℤ)) (set : List ℕ) → Ascend (items_in cells) → Ascend set
    → AllByRecursion (λ rank. among rank keep ≡ true) set → holds set cells ≡ true
    → values_of set cells ≤ℤ kept_gain keep cells
values_of-kept keep cells [] up rise kept h = kept_gain-least keep cells
values_of-kept keep [] (s ∷ set) up rise kept h = cc
values_of-kept keep (cell ∷ cells) (s ∷ set) up rise kept h = elim (cases_eq s cell.0) [
  | inl e ↦
      let here : eqb s cell.0 ≡ true = eq-eqb s cell.0 e in
      let above : AllByRecursion (λ rank. cell.0 < rank) set = subst (λ r. AllByRecursion (λ rank. r < rank) set) e rise.0 in
      let both = and_parts (has s (cell ∷ cells)) (holds set (cell ∷ cells)) h in
      let rest = values_of-kept keep cells set up.1 rise.1 kept.1 (sym (holds-skip set cell cells above) ∙ both.1) in
      let is_kept : among cell.0 keep ≡ true = subst (λ r. among r keep ≡ true) e kept.0 in
      let skip = values_of-skip set cell cells above in
      rw (here, is_kept) (omega (arith, ints, positive-above cell.1, rest, skip))
  | inr ne ↦
      let other : eqb s cell.0 ≡ false = ne_eqb s cell.0 ne in
      let both = and_parts (has s (cell ∷ cells)) (holds set (cell ∷ cells)) h in
      let there : has s cells ≡ true = rw other at both.0 in
      let low : cell.0 < s = at_member (λ y. cell.0 < y) s (items_in cells) up.0 (has-member s cells there) in
      let above : AllByRecursion (λ rank. cell.0 < rank) (s ∷ set) = (low, above_all cell.0 s set low rise.0) in
      let rest = values_of-kept keep cells (s ∷ set) up.1 rise kept (sym (holds-skip (s ∷ set) cell cells above) ∙ h) in
      let skip : values_of (s ∷ set) (cell ∷ cells) ≡ values_of (s ∷ set) cells = values_of-skip (s ∷ set) cell cells above in
      omega (arith, ints, part-least (among cell.0 keep) cell.1, rest, skip)
]

-- a rank of a set that a tail holds stands in it
pub has-among : (z : ℕ) (set : List ℕ) (cells : List (ℕ × ℤ)) → among z set ≡ true → holds set cells ≡ true → has z cells ≡ true
has-among z [] cells m h = cc
has-among z (s ∷ set) cells m h =
    let both = and_parts (has s cells) (holds set cells) h in
    elim (or_cases (eqb z s) (among z set) m) [
      | inl e ↦ subst (λ r. has r cells ≡ true) (sym (eqb-true z s e)) both.0
      | inr later ↦ has-among z set cells later both.1
    ]

pub among-member : (z : ℕ) (xs : List ℕ) → Member z xs → among z xs ≡ true
among-member z [] m = absurd m
among-member z (x ∷ xs) (inl e) = let here : eqb z x ≡ true = eq-eqb z x (sym e) in rw here refl
among-member z (x ∷ xs) (inr m) = let later = among-member z xs m in rw later (or-true (eqb z x))
