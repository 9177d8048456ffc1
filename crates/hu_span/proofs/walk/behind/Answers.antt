use Rattle.std.proofs.Common.{◌≡◌, ◌∙◌, ◌∷◌, [], ◌-ℤ◌, length, reverse, rules, SFits, to_z, of_z, sym, ap, subst, arith}
use Rattle.std.specs.Int.{w128}
use Rattle.std.proofs.lemmas.Int.{ints, to_z-of_z}
use Rattle.std.proofs.lemmas.List.{length-append}
use Rattle.hu_span.specs.Trail.{in_element, trail_marks, values_in}
use Rattle.hu_span.proofs.TurnLemmas.{own-back, own-next, AreFit}
use Rattle.hu_span.proofs.walk.behind.Goals as goal

pub cells-preserved : goal.cells-preserved
cells-preserved c =
    let cell = c.in-Some.cell.now in
    let before = c.in-Some.before.now in
    let mark = c.args.mark.now in
    let e = mark.place.element in
    let ahead = to_z w128 c.cells.ahead-bits in
    let is = c.in-Some.ensures.cases.0 in
    let same : cell.element ≡ e = omega (arith, c.if-cell-mark.false) in
    let turn = own-back e mark.row mark.place.best ahead c.cells.left.now before cell is same c.cells.invariant.fit in
    let next = own-next e c.cells.left.now before cell is same in
    let value_fits : SFits w128 cell.value = search rules in
    let n = ap (λ x. to_z w128 (of_z w128 (ahead -ℤ x))) (to_z-of_z w128 cell.value value_fits) ∙ turn.kept in
    let size = ap length is ∙ length-append before (cell ∷ []) in
    let sum = ap values_in next.0 in
    record {
      few = omega (arith, c.cells.invariant.few, size);
      fit = subst AreFit (λ j. trail_marks mark.row mark.place.best (sym n j) [] (in_element e (reverse before))) turn.more;
      behind = sym next.1 ∙ c.cells.invariant.behind;
      ahead = omega (arith, ints, n, sum, c.cells.invariant.ahead);
    }
