use Rattle.std.proofs.Common.{◌∙◌, ◌++◌, flat_map, map, ap}
use Rattle.std.proofs.lemmas.List.{take_all}
use Rattle.hu_plain.specs.PlaceView.{all_places, following, joining, step_after, step_into}
use Rattle.hu_plain.proofs.PlaceLemmas.{HasSteps-from}
use Rattle.hu_plain.proofs.RowLemmas.{numbers-distinct}
use Rattle.hu_plain.proofs.places.steps_of.Goals as goal

pub returns : goal.returns
returns c =
    let rows = all_places c.args.rows.now in
    let all = ap all_places (take_all c.loop-places.places-index c.args.rows.now c.loop-places-test.false) in
    let join = c.distinct.result.items in
    let follow = c.distinct-2.result.items in
    let joins = numbers-distinct c.loop-places.joining.items join (flat_map joining rows)
    (c.loop-places.invariant.join ∙ ap (flat_map joining) all) c.distinct.ensures in
    let follows = numbers-distinct c.loop-places.following.items follow (flat_map following rows)
    (c.loop-places.invariant.follow ∙ ap (flat_map following) all) c.distinct-2.ensures in
    let into = c.in_ok-push_into.ensures ∙ ap (λ ss. ss ++ map step_into c.deref-2.result.now) c.new-steps.ensures.items
    ∙ ap (map step_into) c.deref-2.ensures.value in
    let both = c.in_ok-push_after.ensures ∙ ap (λ ss. ss ++ map step_after c.deref-3.result.now) into
    ∙ ap (λ items. map step_into join ++ map step_after items) c.deref-3.ensures.value in
    HasSteps-from rows join follow c.push_after.new.steps.items c.requires.ascending joins follows both
