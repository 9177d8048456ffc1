use Rattle.std.proofs.Common.{◌≡◌, ◌∙◌, ap, sym, subst, refl, suc, drop, arith, IfOk, ◌+◌, to_z, of_z}
use mir.Syntax.{w128}
use Rattle.std.specs.List.{AllByRecursion}
use Rattle.std.proofs.lemmas.Int.{ints}
use Rattle.hu_kind.specs.Cell.{pairs_of}
use Rattle.hu_chain.specs.Bound.{IsFit}
use Rattle.hu_chain.specs.Search.{followed_places, walked, IsPlaceOf}
use Rattle.hu_chain.proofs.lemmas.Cells.{total-above}
use Rattle.hu_chain.proofs.Turns.{IsWalk-first}
use Rattle.hu_chain.proofs.chain.followed.Goals as goal

pub overflow_sub-walk : goal.overflow_sub-walk
overflow_sub-walk c =
    let rules = c.tail-tail.ensures.rules in
    let sum = c.total.ensures in
    let low = rules.best in
    let holds = rules.holds in
    let fits = rules.fits in
    let above = total-above (pairs_of c.tail-tail.result.cells.now) rules.plain.none_below in
    omega (arith, ints)

pub places_from-requires-clause-walk : goal.places_from-requires-clause-walk
places_from-requires-clause-walk c =
    let rules = c.tail-tail.ensures.rules in
    let sum = c.total.ensures in
    let low = rules.best in
    let holds = rules.holds in
    let fits = rules.fits in
    let above = total-above (pairs_of c.tail-tail.result.cells.now) rules.plain.none_below in
    let cases = c.in-Some.ensures.cases.0 in
    let fit = subst (AllByRecursion IsFit) cases c.requires.fit in
    let first_fit = fit.0 in
    let best = first_fit.best in
    let rest = first_fit.rest in
    let reach = first_fit.reach in
    IsWalk-first c.args.elements.now c.requires.places.0 c.in-Some.first.now c.in-Some.left.now _ c.tail-tail.result c.requires.sequence
    fit
    (subst (AllByRecursion (IsPlaceOf c.args.elements.now c.requires.places.0)) cases c.requires.places.1)
    c.tail-tail.ensures.value
    (omega (arith, ints))
    (omega (arith, ints))
    refl

pub returns-in-Some-clause-value : goal.returns-in-Some-clause-value
returns-in-Some-clause-value c =
    let elements = c.args.elements.now in
    let item = c.args.item.0 in
    let first = c.in-Some.first.now in
    let left = c.in-Some.left.now in
    let cases = c.in-Some.ensures.cases.0 in
    let fit = subst (AllByRecursion IsFit) cases c.requires.fit in
    let first_fit = fit.0 in
    let best = first_fit.best in
    let rest = first_fit.rest in
    let reach = first_fit.reach in
    let same : first.element + 1 ≡ suc first.element = omega arith in
    let whole = ap (λ n. walked item n first.best left (drop n elements)) same ∙ ap (followed_places elements item) (sym cases) in
    let stored : to_z w128 (of_z w128 first.best) ≡ first.best = omega (arith, ints) in
    let made = ap (λ u. walked item (first.element + 1) u left (drop (first.element + 1) elements)) stored ∙ whole in
    subst (λ places. IfOk c.places_from.result (λ grown. grown.items ≡ places)) made c.places_from.ensures.value
