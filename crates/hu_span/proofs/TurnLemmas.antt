-- A turn of a walk over a trail: what is known of the next cell, and of those behind it.
use Rattle.std.proofs.Common.{◌≡◌, ℕ, ◌+◌, cond, ℤ, ◌-ℤ◌, List, [], ◌∷◌, ◌++◌, length, reverse, to_z, of_z, sym, ap, ◌∙◌, subst, arith}
use Rattle.std.specs.Int.{w128}
use Rattle.std.specs.List.{AllByRecursion}
use Rattle.std.proofs.lemmas.Bool.{eq-eqb}
use Rattle.std.proofs.lemmas.Int.{ints}
use Rattle.std.proofs.lemmas.List.{length-append, length-reverse}
use Rattle.hu_chain.specs.declared.place.Place.{Place}
use Rattle.hu_chain.specs.Bound.{IsFit}
use Rattle.hu_span.specs.declared.mark.Mark.{Mark}
use Rattle.hu_span.specs.declared.trail.TrailCell.{TrailCell}
use Rattle.hu_span.specs.Mark.{places_of}
use Rattle.hu_span.specs.Trail.{behind_element, best_before, in_element, left_before, mark_of, trail_marks, trail_spans}
use Rattle.hu_span.proofs.NumberLemmas.{kept-z}
use Rattle.hu_span.proofs.SpanLemmas.{last-first}
use Rattle.hu_span.proofs.TrailLemmas.{element-parts}

abbrev pub AreFit : List Mark → Type 0
AreFit marks = AllByRecursion IsFit (places_of marks)

-- the mark of a cell, and those of the cells behind it
pub record IsTurn (row : ℕ) (best ahead : ℤ) (places : List Place) (cell : TrailCell) (others : List TrailCell) (marks : List Mark) : Type 0 where
  pub marks_are : marks ≡ mark_of row (best_before cell.element best places) ahead cell
      ∷ trail_marks row (best_before cell.element best places) (ahead -ℤ cell.value) (left_before cell.element places) others
  pub fit : IsFit (mark_of row (best_before cell.element best places) ahead cell).place
  pub more : AreFit (trail_marks row (best_before cell.element best places) (ahead -ℤ cell.value) (left_before cell.element places) others)
  pub kept : to_z w128 (of_z w128 (ahead -ℤ cell.value)) ≡ ahead -ℤ cell.value

pub turn : (row : ℕ) (best ahead : ℤ) (places : List Place) (cell : TrailCell) (others cells : List TrailCell) → cells ≡ cell ∷ others
    → AreFit (trail_marks row best ahead places cells) → IsTurn row best ahead places cell others (trail_marks row best ahead places cells)
turn row best ahead places cell others cells is fits =
    let both = subst (λ cs. AreFit (trail_marks row best ahead places cs)) is fits in
    let fit = both.0 in
    let low = fit.rest in
    let best' = fit.best in
    let high = fit.reach in
    record {
      marks_are = ap (trail_marks row best ahead places) is;
      fit = fit;
      more = both.1;
      kept = kept-z (ahead -ℤ cell.value) low (omega (arith, ints, best', high));
    }

-- of the cells that stand the other way round the last one comes first
pub turn-back : (row : ℕ) (best ahead : ℤ) (places : List Place) (cells before : List TrailCell) (cell : TrailCell) → cells ≡ before ++ cell ∷ []
    → AreFit (trail_marks row best ahead places (reverse cells))
    → IsTurn row best ahead places cell (reverse before) (trail_marks row best ahead places (reverse cells))
turn-back row best ahead places cells before cell is = turn row best ahead places cell (reverse before) (reverse cells) (last-first cells before cell is)

pub spans-back : (low : ℕ) (cells before : List TrailCell) (cell : TrailCell) (high : ℕ) → cells ≡ before ++ cell ∷ [] → high ≡ low + length before
    → trail_spans low 0 (reverse cells) ≡ record { low = low; high = high } ∷ trail_spans low 0 (reverse before)
spans-back low cells before cell high is at =
    let size = length-reverse before in
    let n : low + (length (reverse before) + 0) ≡ high = omega (arith, at, size) in
    ap (trail_spans low 0) (last-first cells before cell is)
    ∙ ap (λ k. record { low = low; high = k } ∷ trail_spans low 0 (reverse before)) n

-- ---- in an element

-- the next cell is of an element
pub own-next : (e : ℕ) (cells before : List TrailCell) (cell : TrailCell) → cells ≡ before ++ cell ∷ [] → cell.element ≡ e
    → (in_element e (reverse cells) ≡ cell ∷ in_element e (reverse before)) × (behind_element e (reverse cells) ≡ behind_element e (reverse before))
own-next e cells before cell is same =
    let yes = eq-eqb cell.element e same in
    let next = last-first cells before cell is in (
      ap (in_element e) next ∙ ap (λ b. cond b (cell ∷ in_element e (reverse before)) []) yes,
      ap (behind_element e) next ∙ ap (λ b. cond b (behind_element e (reverse before)) (cell ∷ reverse before)) yes,
    )

-- of its cells the last one comes first
pub own-back : (e row : ℕ) (best ahead : ℤ) (cells before : List TrailCell) (cell : TrailCell) → cells ≡ before ++ cell ∷ [] → cell.element ≡ e
    → AreFit (trail_marks row best ahead [] (in_element e (reverse cells)))
    → IsTurn row best ahead [] cell (in_element e (reverse before)) (trail_marks row best ahead [] (in_element e (reverse cells)))
own-back e row best ahead cells before cell is same =
    let next = own-next e cells before cell is same in
    turn row best ahead [] cell (in_element e (reverse before)) (in_element e (reverse cells)) next.0

pub own-spans : (e low : ℕ) (cells before : List TrailCell) (cell : TrailCell) (high : ℕ) → cells ≡ before ++ cell ∷ [] → cell.element ≡ e
    → high ≡ low + length before
    → trail_spans low (length (behind_element e (reverse cells))) (in_element e (reverse cells))
    ≡ record { low = low; high = high } ∷ trail_spans low (length (behind_element e (reverse before))) (in_element e (reverse before))
own-spans e low cells before cell high is same at =
    let next = own-next e cells before cell is same in
    let own = in_element e (reverse before) in
    let others = behind_element e (reverse before) in
    let parts = sym (length-append own others) ∙ ap length (element-parts e (reverse before)) ∙ length-reverse before in
    let n : low + (length own + length others) ≡ high = omega (arith, at, parts) in
    (λ j. trail_spans low (length (next.1 j)) (next.0 j))
    ∙ ap (λ k. record { low = low; high = k } ∷ trail_spans low (length others) own) n
