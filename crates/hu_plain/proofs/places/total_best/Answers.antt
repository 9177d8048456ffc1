use Rattle.std.proofs.Common.{◌∙◌, pos, ap, unwrap_or, arith, add-one}
use Rattle.std.proofs.lemmas.Int.{ints}
use Rattle.hu_plain.specs.Place.{best_of}
use Rattle.hu_plain.specs.PlaceView.{places_of}
use Rattle.hu_plain.proofs.PlaceLemmas.{utility-more, sum-within}
use Rattle.hu_plain.proofs.places.total_best.Goals as goal

pub overflow_add-sum : goal.overflow_add-sum
overflow_add-sum c =
    let rows = c.args.rows.now in
    let i = c.loop-places.places-index in
    let item = c.deref.ensures.value ∙ ap (λ v. v.items) c.places-item.is in
    let one = c.unwrap_or-sum.ensures ∙ ap (λ b. unwrap_or b (pos 0)) (c.best_of.ensures ∙ ap (λ places. best_of (places_of places)) item) in
    let within = sum-within rows i c.places-item.result c.loop-places-test.true in
    let so_far = c.loop-places.invariant in
    let fits = c.requires.sum_fits in
    omega (arith, ints, one, within, so_far, fits)

pub loop-places-preserved : goal.loop-places-preserved
loop-places-preserved c =
    let rows = c.args.rows.now in
    let i = c.loop-places.places-index in
    let item = c.deref.ensures.value ∙ ap (λ v. v.items) c.places-item.is in
    let one = c.unwrap_or-sum.ensures ∙ ap (λ b. unwrap_or b (pos 0)) (c.best_of.ensures ∙ ap (λ places. best_of (places_of places)) item) in
    let within = sum-within rows i c.places-item.result c.loop-places-test.true in
    let more = utility-more rows i c.places-item.result c.loop-places-test.true in
    let so_far = c.loop-places.invariant in
    let fits = c.requires.sum_fits in
    rw add-one (omega (arith, ints, one, within, more, so_far, fits))
