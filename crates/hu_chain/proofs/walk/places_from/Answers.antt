use Rattle.std.proofs.Common.{◌∙◌, ◌-ℤ◌, ◌++◌, ap, sym, subst, arith, option_to_list}
use Rattle.std.specs.List.{AllByRecursion}
use Rattle.std.proofs.lemmas.Int.{ints}
use Rattle.hu_kind.specs.Cell.{pairs_of}
use Rattle.hu_kind.specs.Record.{total}
use Rattle.hu_chain.specs.Bound.{IsFit}
use Rattle.hu_chain.proofs.lemmas.Bounds.{elements-few}
use Rattle.hu_chain.proofs.Turns.{IsWhole, IsTail-whole, IsWalk-past, fit-more, found-whole_element, walked-next, whole-holds}
use Rattle.hu_chain.proofs.walk.places_from.Goals as goal

pub overflow_cast-element : goal.overflow_cast-element
overflow_cast-element c = let few = elements-few c.args.elements.now c.requires.sequence in omega arith

pub ended-requires : goal.ended-requires
ended-requires c =
    let elements = c.args.elements.now in
    let e = c.loop-number.number in
    let whole : IsWhole elements e c.loop-number.walk c.tail.result = record {
      element = c.tail.ensures.element;
      first = c.tail.ensures.first;
      cells = ap pairs_of c.tail.ensures.cells ∙ c.cells_at-cells.ensures.value;
      best = c.tail.ensures.best;
      ahead = c.tail.ensures.ahead;
    } in
    IsTail-whole elements e c.loop-number.walk c.tail.result c.requires.sequence c.loop-number-test.true
    c.cells_at-cells.ensures.plain c.cells_at-cells.ensures.few c.loop-number.invariant.rules whole

pub past-walk-requires-clause-holds : goal.past-walk-requires-clause-holds
past-walk-requires-clause-holds c =
    let same = ap total c.cells_at-cells.ensures.value in
    let holds =
    whole-holds c.args.elements.now c.loop-number.number c.loop-number.walk c.requires.sequence
    c.loop-number-test.true c.loop-number.invariant.rules in
    omega (arith, ints)

pub loop-number-preserved : goal.loop-number-preserved
loop-number-preserved c =
    let elements = c.args.elements.now in
    let e = c.loop-number.number in
    let whole : IsWhole elements e c.loop-number.walk c.tail.result = record {
      element = c.tail.ensures.element;
      first = c.tail.ensures.first;
      cells = ap pairs_of c.tail.ensures.cells ∙ c.cells_at-cells.ensures.value;
      best = c.tail.ensures.best;
      ahead = c.tail.ensures.ahead;
    } in
    let walk = c.loop-number.walk in
    let rules = c.loop-number.invariant.rules in
    let made = c.loop-number.places.items in
    let best = c.past-walk.ensures.best in
    let left = c.past-walk.ensures.left in
    let ahead = c.past-walk.ensures.ahead ∙ ap (λ t. walk.ahead -ℤ t) (ap total c.cells_at-cells.ensures.value) in
    let here = c.ended.ensures.value ∙ found-whole_element elements e c.args.item.0 walk c.tail.result c.loop-number-test.true rules whole in
    let more = c.in_ok-push_place.ensures ∙ ap (λ o. made ++ option_to_list o) here in
    record {
      so_far =
          walked-next elements c.args.item.0 e walk.best walk.left.now made c.push_place.new.places.items _
          c.past-walk.result c.loop-number-test.true c.loop-number.invariant.so_far more best left;
      rules = IsWalk-past elements e walk c.past-walk.result c.requires.sequence c.loop-number-test.true c.cells_at-cells.ensures.plain rules best left ahead;
      fit = subst (AllByRecursion IsFit) (sym c.in_ok-push_place.ensures) (fit-more c.ended.result made c.loop-number.invariant.fit c.ended.ensures.fit);
    }
