use Rattle.std.proofs.Common.{◌≡◌, ◌∙◌, ◌++◌, ◌∷◌, [], ◌-ℤ◌, length, reverse, rules, SFits, to_z, of_z, sym, ap, subst, arith}
use Rattle.std.specs.Int.{w128}
use Rattle.std.proofs.lemmas.Int.{to_z-of_z}
use Rattle.std.proofs.lemmas.List.{length-append}
use Rattle.hu_chain.specs.Bound.{IsFit}
use Rattle.hu_span.specs.Trail.{behind_element, in_element, mark_of, trail_marks, trail_spans}
use Rattle.hu_span.proofs.SpanLemmas.{pushed-next}
use Rattle.hu_span.proofs.TurnLemmas.{own-back, own-spans, AreFit}
use Rattle.hu_span.proofs.walk.push_beside.Goals as goal

pub marked-requires : goal.marked-requires
marked-requires c =
    let cell = c.in-Some.cell.now in
    let mark = c.args.mark.now in
    let ahead = to_z w128 c.cells.ahead-bits in
    let turn = own-back mark.place.element mark.row mark.place.best ahead c.cells.left.now c.in-Some.before.now cell c.in-Some.ensures.cases.0
    (omega (arith, c.if-cell-place.false)) c.cells.invariant.fit in
    let best_fits : SFits w128 mark.place.best = search rules in
    let b = to_z-of_z w128 mark.place.best best_fits in
    subst IsFit (λ j. (mark_of mark.row (sym b j) ahead cell).place) turn.fit

pub cells-preserved : goal.cells-preserved
cells-preserved c =
    let cell = c.in-Some.cell.now in
    let before = c.in-Some.before.now in
    let mark = c.args.mark.now in
    let e = mark.place.element in
    let ahead = to_z w128 c.cells.ahead-bits in
    let is = c.in-Some.ensures.cases.0 in
    let same : cell.element ≡ e = omega (arith, c.if-cell-place.false) in
    let turn = own-back e mark.row mark.place.best ahead c.cells.left.now before cell is same c.cells.invariant.fit in
    let best_fits : SFits w128 mark.place.best = search rules in
    let value_fits : SFits w128 cell.value = search rules in
    let n = ap (λ x. to_z w128 (of_z w128 (ahead -ℤ x))) (to_z-of_z w128 cell.value value_fits) ∙ turn.kept in
    let made = c.marked.ensures ∙ ap (λ b. mark_of mark.row b ahead cell) (to_z-of_z w128 mark.place.best best_fits) in
    let old = c.cells.held.marks.items in
    let olds = c.cells.held.spans.items in
    let new = c.push.new.self.marks.items in
    let news = c.push.new.self.spans.items in
    let size = ap length is ∙ length-append before (cell ∷ []) in
    let own = in_element e (reverse before) in
    let others = behind_element e (reverse before) in
    record {
      few = omega (arith, c.cells.invariant.few, size);
      fit = subst AreFit (λ j. trail_marks mark.row mark.place.best (sym n j) [] own) turn.more;
      marks = ap (λ a. new ++ trail_marks mark.row mark.place.best a [] own) n
          ∙ pushed-next old new _ _ _ (c.in_ok-push.ensures.marks ∙ ap (λ m. old ++ m ∷ []) made)
          (ap (λ ms. old ++ ms) (sym turn.marks_are) ∙ c.cells.invariant.marks);
      spans = pushed-next olds news _ (trail_spans c.args.low (length others) own) _ c.in_ok-push.ensures.spans
          (ap (λ ss. olds ++ ss) (sym (own-spans e c.args.low c.cells.left.now before cell _ is same (omega arith))) ∙ c.cells.invariant.spans);
    }
