-- Where a search begins: the cells of all records, and a mark for each.
use Rattle.std.proofs.Common.{◌≡◌, ◌∙◌, ℕ, ◌+◌, ◌-◌, Bool, true, cond, ℤ, pos, List, [], ◌∷◌, ◌++◌, append-nil, filter, length, drop, take}
use Rattle.std.proofs.Common.{reverse, refl, sym, ap, subst, arith, length-append}
use Rattle.std.proofs.lemmas.Int.{ints}
use Rattle.std.proofs.lemmas.List.{length-reverse, reverse-reverse, take_all}
use Rattle.hu_kind.specs.Sequence.{IsSequence}
use Rattle.hu_chain.specs.Place.{totals}
use Rattle.hu_span.specs.declared.trail.Span.{Span}
use Rattle.hu_span.specs.declared.trail.TrailCell.{TrailCell}
use Rattle.hu_span.specs.Gather.{walk_marks}
use Rattle.hu_span.specs.Growing.{Records}
use Rattle.hu_span.specs.Kept.{takes, weighed_in}
use Rattle.hu_span.specs.Mark.{record_at}
use Rattle.hu_span.specs.Trail.{cells_from, is_held, trail_marks, trail_spans, AreSpans}
use Rattle.hu_span.proofs.SpanLemmas.{spans-walked}
use Rattle.hu_span.proofs.TrailLemmas.{followed-all, walk-trail, AreFollowed}
use Rattle.hu_span.proofs.TurnLemmas.{AreFit}
use Rattle.hu_span.proofs.WalkLemmas.{fit-taken, totals-fit, walk-fit}
use Rattle.hu_span.proofs.WeighedLemmas.{all-elements}

drop-front : {A : Type 0} (xs ys : List A) → drop (length xs) (xs ++ ys) ≡ ys
drop-front [] ys = refl
drop-front (x ∷ xs) ys = drop-front xs ys

-- what was pushed last
pub pushed-last : {A : Type 0} (whole old new : List A) (low : ℕ) → whole ≡ old ++ new → low ≡ length old
    → take (length whole - low) (drop low whole) ≡ new
pushed-last whole old new low is at =
    let size = ap length is ∙ length-append old new in
    (λ j. take (length whole - low) (drop (at j) (is j))) ∙ ap (take (length whole - low)) (drop-front old new)
    ∙ take_all (length whole - low) new (omega (arith, size, at))

module _ (keep : ℕ → Bool) (every : (item : ℕ) → keep item ≡ true) where
  held-all : (cells : List TrailCell) → filter (is_held keep) cells ≡ cells
  held-all [] = refl
  held-all (cell ∷ cells) = λ j. cond (every cell.item.0 j) (cell ∷ held-all cells j) (held-all cells j)

  -- the marks of a record
  pub first-marks : (row : ℕ) (r : List (List (ℕ × ℤ))) → trail_marks row (pos 0) (totals r) [] (cells_from 0 r)
      ≡ filter (takes keep) (walk_marks row 0 (pos 0) (totals (weighed_in keep r)) [] (weighed_in keep r))
  first-marks row r =
      let sum = ap totals (all-elements keep every r) in
      (λ j. trail_marks row (pos 0) (sym sum j) [] (sym (held-all (cells_from 0 r)) j))
      ∙ sym (walk-trail keep row 0 (pos 0) (totals (weighed_in keep r)) [] r tt)

  pub first-fit : (row : ℕ) (r : List (List (ℕ × ℤ))) → IsSequence r → AreFit (trail_marks row (pos 0) (totals r) [] (cells_from 0 r))
  first-fit row r rules =
      let w = weighed_in keep r in
      let rule : IsSequence w = subst IsSequence (sym (all-elements keep every r)) rules in
      let fits = totals-fit w rule in
      subst AreFit (sym (first-marks row r)) (fit-taken (takes keep) (walk_marks row 0 (pos 0) (totals w) [] w)
      (walk-fit w rule row 0 (pos 0) (totals w) [] w refl refl (omega (arith, ints)) (omega (arith, ints, fits)) tt))

  -- and the cells behind each
  pub first-spans : (records : Records) (row : ℕ) (old trail : List TrailCell) (ahead : ℤ) → let cells = cells_from 0 (record_at records row) in
      trail ≡ old ++ reverse cells
      → AreSpans keep records trail (trail_marks row (pos 0) ahead [] cells) (trail_spans (length old) 0 cells)
  first-spans records row old trail ahead is =
      let r = record_at records row in
      let cells = cells_from 0 r in
      let low = length old in
      let span : Span = record { low = low; high = low + length cells } in
      let size = ap length is ∙ length-append old (reverse cells) in
      let same = length-reverse cells in
      let n : (low + length cells) - low ≡ length trail - low = omega (arith, size, same) in
      let at = ap (λ k. reverse (take k (drop low trail))) n ∙ ap reverse (pushed-last trail old (reverse cells) low is refl) ∙ reverse-reverse cells
      ∙ sym (append-nil cells) in
      let all = subst (AreFollowed keep r) (held-all cells ∙ sym (append-nil cells)) (followed-all keep r) in
      spans-walked keep records trail row low span [] cells [] (pos 0) ahead [] (record {
        ordered = omega arith;
        within = omega (arith, size, same);
      }) refl at all
