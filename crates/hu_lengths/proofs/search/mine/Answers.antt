use Rattle.std.proofs.Common.{◌≡◌, None, to_z, of_z, ◌∙◌, ap, subst, arith}
use Rattle.std.specs.Int.{w128}
use Rattle.std.proofs.lemmas.Int.{ints}
use Rattle.hu_totals.specs.Ranked.{unranked}
use Rattle.hu_collect.specs.State.{floor_in, Mines}
use Rattle.hu_lengths.specs.Lengths.{sized_answer}
use Rattle.hu_lengths.proofs.OfferLemmas.{mines-upto}
use Rattle.hu_lengths.proofs.search.mine.Goals as goal

pub returns : goal.returns
returns g c =
    let old = g.C.Collect.state c.args.collect.now in
    let new = g.C.Collect.state c.offer_all.new.collect in
    let records = unranked c.args.ranked.now in
    let floor : to_z w128 (of_z w128 c.floor-floor.result) ≡ floor_in old = omega (arith, ints, c.floor-floor.type_inv) ∙ c.floor-floor.ensures.value in
    let found = c.in_ok-entries.ensures ∙ ap (λ z. sized_answer records z None 0 c.args.long) floor in
    mines-upto c.offer_all.result old new c.args.long records c.floor-floor.ensures.in_order
    (subst (λ es. Mines old es new c.offer_all.result) found c.offer_all.ensures)
