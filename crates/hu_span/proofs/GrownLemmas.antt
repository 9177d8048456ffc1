-- What a pattern grows by at its marks, by the cells behind them.
use Rattle.std.proofs.Common.{◌≡◌, ◌∙◌, ℕ, get_or, ◌+◌, ◌-◌, ◌<◌, ◌≤◌, Bool, List, ◌∷◌, ◌++◌, filter, length, length-append, reverse, sym, ap, subst}
use Rattle.std.proofs.Common.{arith}
use Rattle.std.specs.List.{AllByRecursion}
use Rattle.std.proofs.lemmas.List.{length-map}
use Rattle.std.proofs.Math.Seq.{get_or-append_seam}
use Rattle.hu_kind.proofs.lemmas.Each.{each-get, each-left, each-right}
use Rattle.hu_kind.specs.Sequence.{IsSequence}
use Rattle.hu_chain.specs.Pattern.{last_item}
use Rattle.hu_chain.specs.Bound.{IsFit}
use Rattle.hu_chain.specs.Search.{IsPlaceOf}
use Rattle.hu_span.specs.declared.mark.Mark.{Mark}
use Rattle.hu_span.specs.declared.trail.Held.{Held}
use Rattle.hu_span.specs.declared.rows.Row.{Row}
use Rattle.hu_span.specs.declared.trail.Span.{Span}
use Rattle.hu_span.specs.declared.trail.TrailCell.{TrailCell}
use Rattle.hu_span.specs.Gather.{beside_marks, later_marks}
use Rattle.hu_span.specs.Growing.{Records}
use Rattle.hu_span.specs.Kept.{takes, weighed_in, weighed_of}
use Rattle.hu_span.specs.Mark.{places_of, record_at, IsMark}
use Rattle.hu_span.specs.Trail.{behind_element, cells_at, in_element, row_beside, row_later, span_of, trail_beside, trail_later, trail_spans}
use Rattle.hu_span.specs.Trail.{AreHeld, AreLeft, AreSpans, IsFrontRow, IsSpan, IsWalked}
use Rattle.hu_span.proofs.ReachLemmas.{Ends-reached}
use Rattle.hu_span.proofs.RowsLemmas.{beside_kept, fit-each, marks-behind, rows-from, rows-places}
use Rattle.hu_span.proofs.SpanLemmas.{spans-beside, spans-later}
use Rattle.hu_span.proofs.TrailLemmas.{beside-trail, later-trail, AreFrom}
use Rattle.hu_span.proofs.TurnLemmas.{AreFit}
use Rattle.hu_span.proofs.WalkLemmas.{beside-fit, fit-taken, later-fit, rule-at}
use Rattle.hu_span.proofs.WeighedLemmas.{weighed-record, weighed-sequence}

module _ (keep : ℕ → Bool) (records : Records) (trail : List TrailCell) (rules : AllByRecursion IsSequence records) where
  -- what a pattern grows by beside a mark
  pub record IsBeside (mark : Mark) (span : Span) (cells : List TrailCell) : Type 0 where
    pub marks : trail_beside mark.row mark.place cells ≡ beside_kept keep (weighed_of keep records) mark
    pub fit : AreFit (trail_beside mark.row mark.place cells)
    pub spans : AreSpans keep records trail (trail_beside mark.row mark.place cells)
        (trail_spans span.low (length (behind_element mark.place.element cells)) (in_element mark.place.element cells))

  -- and in the elements behind the first mark of a row
  pub record IsLater (row : Row) : Type 0 where
    pub beside : AreFit (row_beside row)
    pub later : AreFit (row_later row)
    pub walked : IsWalked keep records trail row

  -- the rules of a mark's record, where some items count alone
  row-rules : (last : ℕ) (mark : Mark) → IsMark (weighed_of keep records) last mark → IsSequence (weighed_in keep (record_at records mark.row))
  row-rules last mark is =
      let size = length-map records (weighed_in keep) in
      weighed-sequence keep (record_at records mark.row) (rule-at records mark.row rules (omega (arith, size, is.within)))

  pub beside-at : (last : ℕ) (mark : Mark) (span : Span) (cells : List TrailCell) → IsMark (weighed_of keep records) last mark
      → IsSpan keep records trail mark span → cells ≡ cells_at trail span → IsBeside mark span cells
  beside-at last mark span cells is at same =
      let row = record_at records mark.row in
      let place = mark.place in
      let seen = weighed-record keep records mark.row in
      let here = ap (trail_beside mark.row place) (same ∙ at.cells) ∙ beside-trail keep row mark.row place in
      let fits = fit-taken (takes keep) (beside_marks (weighed_in keep row) mark.row place)
      (beside-fit (weighed_in keep row) (row-rules last mark is) last mark.row place (subst (λ r. IsPlaceOf r last place) seen is.place) is.fit) in
      record {
        marks = here ∙ ap (λ r. filter (takes keep) (beside_marks r mark.row place)) (sym seen);
        fit = subst AreFit (sym here) fits;
        spans = subst (λ cs. AreSpans keep records trail (trail_beside mark.row place cs)
            (trail_spans span.low (length (behind_element place.element cs)) (in_element place.element cs))) (sym same)
            (spans-beside keep records trail mark span at);
      }

  pub later-at : (last : ℕ) (row : Row) → IsMark (weighed_of keep records) last row.first.now
      → AllByRecursion (IsPlaceOf (record_at (weighed_of keep records) row.first.now.row) last) (places_of (row.first.now ∷ row.others.now))
      → AllByRecursion IsFit (places_of (row.first.now ∷ row.others.now)) → AreFrom 0 (places_of (row.first.now ∷ row.others.now))
      → IsSpan keep records trail row.first.now (span_of row.stretch) → reverse row.stretch.cells.now ≡ cells_at trail (span_of row.stretch)
      → IsLater row
  later-at last row is are fits from at same =
      let first = row.first.now in
      let span = span_of row.stretch in
      let elements = record_at records first.row in
      let seen = weighed-record keep records first.row in
      let places = places_of (first ∷ row.others.now) in
      let own = beside-at last first span (reverse row.stretch.cells.now) is at same in
      let here = ap (trail_later first.row places) (same ∙ at.cells) ∙ later-trail keep elements first.row first.place (places_of row.others.now) from.1 in
      let good = fit-taken (takes keep) (later_marks (weighed_in keep elements) first.row places)
      (later-fit (weighed_in keep elements) last first.row places (row-rules last first is) (subst (λ r. AllByRecursion (IsPlaceOf r last) places) seen are)
      fits) in
      record {
        beside = own.fit;
        later = subst AreFit (sym here) good;
        walked = record {
          marks = here ∙ ap (λ r. filter (takes keep) (later_marks r first.row places)) (sym seen);
          spans = subst (λ cs. AreSpans keep records trail (trail_later first.row places cs)
              (trail_spans span.low 0 (behind_element first.place.element cs))) (sym same)
              (spans-later keep records trail first span at (places_of row.others.now));
        };
      }

-- ---- at a mark, by its place among all

module _ {keep : ℕ → Bool} {records : Records} {trail : List TrailCell} {pattern : List (List ℕ)} {held : Held}
    (are : AreHeld keep records trail pattern held) where
  pub met : (marks : List Mark) (i : ℕ) (m : Mark) (span : Span) (cells : List TrailCell) → marks ≡ held.marks.items → i < length marks
      → IsSpan keep records trail (get_or held.marks.items i m) span → cells ≡ cells_at trail span
      → IsBeside keep records trail are.are.rules (get_or marks i m) span cells
  met marks i m span cells same within own here =
      let is = each-get (IsMark (weighed_of keep records) (last_item pattern)) held.marks.items i m are.places.each (omega (arith, within, ap length same)) in
      subst (λ ms. IsBeside keep records trail are.are.rules (get_or ms i m) span cells) (sym same)
      (beside-at keep records trail are.are.rules (last_item pattern) (get_or held.marks.items i m) span cells is own here)

  -- those that are left stand behind the others
  behind : (left : List Mark) → AreLeft (weighed_of keep records) pattern left → (front : List Mark) × (held.marks.items ≡ front ++ left)
  behind left rest =
      let at : rest.row ≡ 0 + rest.row = omega arith in
      let all = marks-behind pattern (last_item pattern) 0 rest.row rest.row (weighed_of keep records) at in
      (all.0, are.places.is ∙ all.1 ∙ ap (λ ms. all.0 ++ ms) (sym rest.is))

  pub left-few : (left : List Mark) → AreLeft (weighed_of keep records) pattern left → length left ≤ length held.marks.items
  left-few left rest = let all = behind left rest in omega (arith, ap length all.1, length-append all.0 left)

  -- at the next row of them
  pub met-row : (row : Row) (left : List Mark) → IsFrontRow left row → AreLeft (weighed_of keep records) pattern left
      → IsSpan keep records trail (get_or held.marks.items (length held.marks.items - length left) row.first.now) (span_of row.stretch)
      → reverse row.stretch.cells.now ≡ cells_at trail (span_of row.stretch) → IsLater keep records trail are.are.rules row
  met-row row left front rest own same =
      let rs = weighed_of keep records in
      let last = last_item pattern in
      let first = row.first.now in
      let later = row.others.now ++ row.left.now in
      let all = behind left rest in
      let marks : held.marks.items ≡ all.0 ++ first ∷ later = all.1 ∙ ap (λ ms. all.0 ++ ms) front.parts in
      let size : length held.marks.items - length left ≡ length all.0 = omega (arith, ap length all.1, length-append all.0 left) in
      let first_is = (λ j. get_or (marks j) (size j) first) ∙ get_or-append_seam all.0 first later first in
      let each = each-right (IsMark rs last) all.0 (first ∷ later) (subst (AllByRecursion (IsMark rs last)) marks are.places.each) in
      let fits = fit-each rs last (first ∷ row.others.now) (each.0, each-left (IsMark rs last) row.others.now row.left.now each.1) in
      later-at keep records trail are.are.rules last row each.0 (rows-places rs pattern row left front rest (Ends-reached pattern are.reached)) fits
      (rows-from rs pattern row left front rest) (subst (λ m. IsSpan keep records trail m (span_of row.stretch)) first_is own) same
