use Rattle.std.proofs.Common.{◌∙◌, ◌++◌, ◌∷◌, [], ◌-ℤ◌, length, reverse, rules, SFits, to_z, of_z, sym, ap, subst, arith}
use Rattle.std.specs.Int.{w128}
use Rattle.std.proofs.lemmas.Int.{to_z-of_z}
use Rattle.std.proofs.lemmas.List.{length-append}
use Rattle.hu_chain.specs.Bound.{IsFit}
use Rattle.hu_span.specs.Mark.{places_of}
use Rattle.hu_span.specs.Trail.{mark_of, trail_marks, trail_spans}
use Rattle.hu_span.proofs.SpanLemmas.{pushed-next}
use Rattle.hu_span.proofs.TurnLemmas.{spans-back, turn-back, AreFit}
use Rattle.hu_span.proofs.walk.push_walk.Goals as goal

pub marked-requires : goal.marked-requires
marked-requires c =
    let cell = c.in-Some.cell.now in
    let walk = c.cells.walk in
    let next = c.upto-walk.result in
    let turn = turn-back c.args.row walk.best walk.ahead (places_of walk.left.now) c.cells.left.now c.in-Some.before.now cell
    c.in-Some.ensures.cases.0 c.cells.invariant.fit in
    let best_fits : SFits w128 next.best = search rules in
    let ahead_fits : SFits w128 next.ahead = search rules in
    let b = to_z-of_z w128 next.best best_fits ∙ c.upto-walk.ensures.best in
    let a = to_z-of_z w128 next.ahead ahead_fits ∙ c.upto-walk.ensures.ahead in
    subst IsFit (λ j. (mark_of c.args.row (sym b j) (sym a j) cell).place) turn.fit

pub cells-preserved : goal.cells-preserved
cells-preserved c =
    let cell = c.in-Some.cell.now in
    let before = c.in-Some.before.now in
    let walk = c.cells.walk in
    let next = c.upto-walk.result in
    let is = c.in-Some.ensures.cases.0 in
    let turn = turn-back c.args.row walk.best walk.ahead (places_of walk.left.now) c.cells.left.now before cell is c.cells.invariant.fit in
    let best_fits : SFits w128 next.best = search rules in
    let ahead_fits : SFits w128 next.ahead = search rules in
    let value_fits : SFits w128 cell.value = search rules in
    let b = c.upto-walk.ensures.best in
    let a = to_z-of_z w128 next.ahead ahead_fits ∙ c.upto-walk.ensures.ahead in
    let v = to_z-of_z w128 cell.value value_fits in
    let l = c.upto-walk.ensures.left in
    let n = ap (λ x. to_z w128 (of_z w128 x)) (λ j. a j -ℤ v j) ∙ turn.kept in
    let mark = c.marked.ensures ∙ (λ j. mark_of c.args.row ((to_z-of_z w128 next.best best_fits ∙ b) j) (a j) cell) in
    let old = c.cells.held.marks.items in
    let olds = c.cells.held.spans.items in
    let new = c.push.new.self.marks.items in
    let news = c.push.new.self.spans.items in
    let size = ap length is ∙ length-append before (cell ∷ []) in
    record {
      few = omega (arith, c.cells.invariant.few, size);
      fit = subst AreFit (λ j. trail_marks c.args.row (sym b j) (sym n j) (sym l j) (reverse before)) turn.more;
      marks = (λ j. new ++ trail_marks c.args.row (b j) (n j) (l j) (reverse before))
          ∙ pushed-next old new _ _ _ (c.in_ok-push.ensures.marks ∙ ap (λ m. old ++ m ∷ []) mark)
          (ap (λ ms. old ++ ms) (sym turn.marks_are) ∙ c.cells.invariant.marks);
      spans = pushed-next olds news _ (trail_spans c.args.low 0 (reverse before)) _ c.in_ok-push.ensures.spans
          (ap (λ ss. olds ++ ss) (sym (spans-back c.args.low c.cells.left.now before cell _ is (omega arith))) ∙ c.cells.invariant.spans);
    }
