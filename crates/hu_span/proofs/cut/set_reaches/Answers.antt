use Rattle.std.proofs.Common.{◌≡◌, ◌+ℤ◌, pos, get_or, to_z, of_z, arith, length, ◌<◌}
use Rattle.std.specs.Int.{w128}
use Rattle.std.proofs.lemmas.Int.{ints}
use Rattle.hu_kind.proofs.lemmas.Each.{each-get}
use Rattle.hu_span.specs.declared.mark.Mark.{Mark}
use Rattle.hu_span.proofs.NumberLemmas.{kept-z}
use Rattle.hu_span.proofs.OpenLemmas.{set-next}
use Rattle.hu_span.proofs.TallyLemmas.{fit-at}
use Rattle.hu_span.proofs.cut.set_reaches.Goals as goal

pub overflow_add-mark : goal.overflow_add-mark
overflow_add-mark c =
    let none : Mark = record { item = record { 0 = 0 }; row = 0; place = record { element = 0; cell = 0; best = pos 0; rest = pos 0 } } in
    let fit = fit-at c.args.marks.now c.marks.mark-index none c.requires.fit c.marks-test.true in
    let place = (get_or c.args.marks.now c.marks.mark-index none).place in
    let low = fit.best in
    let more = fit.rest in
    let high = fit.reach in
    let b = kept-z place.best low (omega (arith, ints)) in
    let r = kept-z place.rest more (omega (arith, ints)) in
    omega (arith, ints)

pub marks-preserved : goal.marks-preserved
marks-preserved c =
    let none : Mark = record { item = record { 0 = 0 }; row = 0; place = record { element = 0; cell = 0; best = pos 0; rest = pos 0 } } in
    let fit = fit-at c.args.marks.now c.marks.mark-index none c.requires.fit c.marks-test.true in
    let mark = get_or c.args.marks.now c.marks.mark-index none in
    let place = mark.place in
    let low = fit.best in
    let more = fit.rest in
    let high = fit.reach in
    let b = kept-z place.best low (omega (arith, ints)) in
    let r = kept-z place.rest more (omega (arith, ints)) in
    let sum = kept-z (to_z w128 (of_z w128 place.best) +ℤ to_z w128 (of_z w128 place.rest)) (omega (arith, ints)) (omega (arith, ints)) in
    let fits = c.max.type_inv in
    let result : to_z w128 (of_z w128 c.max.result) ≡ c.max.result = omega (arith, ints) in
    let own = c.max.ensures.self_bound in
    let other = c.max.ensures.other_bound in
    let every = each-get (λ (m : Mark). m.row < length c.args.reaches.now) c.args.marks.now c.marks.mark-index none c.requires.within c.marks-test.true in
    let same = c.marks.auto.reaches in
    let same' = c.rows.auto.reaches in
    let inside : mark.row < length c.marks.reaches = omega (arith, every, same, same') in
    set-next c.marks.reaches c.args.marks.now c.marks.mark-index none (to_z w128 (of_z w128 c.max.result)) c.marks-test.true inside
    (omega (arith, ints, own, result)) (omega (arith, ints, b, r, sum, result, other)) c.marks.invariant
