use Rattle.std.proofs.Common.{◌≡◌, ◌∙◌, ◌-◌, ◌++◌, [], length, rules, SFits, pos, reverse, take, drop, to_z, of_z, true, refl, sym, ap, subst, arith}
use Rattle.std.specs.Int.{w128}
use Rattle.std.proofs.lemmas.Int.{to_z-of_z}
use Rattle.std.proofs.lemmas.List.{reverse-reverse}
use Rattle.std.proofs.lemmas.Result.{on_ok_weaker}
use Rattle.hu_chain.specs.Place.{totals}
use Rattle.hu_chain.proofs.lemmas.Gathered.{totals-all}
use Rattle.hu_span.specs.Trail.{cells_from, trail_marks, trail_spans}
use Rattle.hu_span.proofs.BeginLemmas.{first-fit, pushed-last}
use Rattle.hu_span.proofs.TurnLemmas.{AreFit}
use Rattle.hu_span.proofs.gather.push_first.Goals.{After-deref}
use Rattle.hu_span.proofs.gather.push_first.Goals as goal

-- the record's cells, as they were pushed
cells_at : (c : After-deref) → reverse (take (length c.deref.result.now - c.len-low.result) (drop c.len-low.result c.deref.result.now))
    ≡ cells_from 0 c.args.one.now
cells_at c =
    let same = c.elements.ensures.value in
    let pushed = c.deref.ensures.value ∙ c.in_ok-push_record.ensures ∙ ap (λ es. c.args.trail.now.items ++ reverse (cells_from 0 es)) same in
    ap reverse (pushed-last c.deref.result.now c.args.trail.now.items (reverse (cells_from 0 c.args.one.now)) c.len-low.result pushed
    (omega (arith, c.len-low.ensures))) ∙ reverse-reverse (cells_from 0 c.args.one.now)

-- and its sum
sum_at : (c : After-deref) → to_z w128 (of_z w128 c.absolute.result) ≡ totals c.args.one.now
sum_at c =
    let fits : SFits w128 c.absolute.result = search rules in
    to_z-of_z w128 c.absolute.result fits ∙ c.absolute.ensures.value ∙ sym (totals-all c.args.one.now c.elements.ensures.rules)

pub push_walk-requires-clause-fit : goal.push_walk-requires-clause-fit
push_walk-requires-clause-fit c =
    let d = (goal.at.push_walk-requires-clause-fit c).After-deref in
    subst AreFit (λ j. trail_marks c.args.row (pos 0) (sym (sum_at d) j) [] (sym (cells_at d) j))
    (first-fit (λ _. true) (λ _. refl) c.args.row c.args.one.now c.elements.ensures.rules)

pub returns-clause-marks : goal.returns-clause-marks
returns-clause-marks c =
    let d = (goal.at.returns-clause-marks c).After-deref in
    let old = c.args.held.now.marks.items in
    on_ok_weaker c.push_walk.result (λ is. is ∙ (λ j. old ++ trail_marks c.args.row (pos 0) (sum_at d j) [] (cells_at d j))) c.push_walk.ensures.marks

pub returns-clause-spans : goal.returns-clause-spans
returns-clause-spans c =
    let d = (goal.at.returns-clause-spans c).After-deref in
    let n : c.len-low.result ≡ length c.args.trail.now.items = omega (arith, c.len-low.ensures) in
    let old = c.args.held.now.spans.items in
    on_ok_weaker c.push_walk.result (λ is. is ∙ (λ j. old ++ trail_spans (n j) 0 (cells_at d j))) c.push_walk.ensures.spans
