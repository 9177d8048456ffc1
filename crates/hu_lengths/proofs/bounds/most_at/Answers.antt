use Rattle.std.proofs.Common.{◌≡◌, ◌≤ℤ◌, ◌+ℤ◌, pos, map, sym, ap, ◌∙◌, subst, to_z, of_z, arith}
use Rattle.std.specs.Int.{w128}
use Rattle.std.proofs.lemmas.Int.{ints}
use Rattle.hu_kind.specs.Record.{positive_part}
use Rattle.hu_kind.proofs.lemmas.Each.{each-take}
use Rattle.hu_kind.proofs.lemmas.Earned.{positive_part-within}
use Rattle.hu_totals.specs.View.{dense_pair}
use Rattle.hu_lengths.specs.Bound.{falling, values_after, sum_of}
use Rattle.hu_lengths.proofs.GreatestLemmas.{NoLoss, falling-least}
use Rattle.hu_lengths.proofs.BoundLemmas.{values_after-least}
use Rattle.hu_lengths.proofs.NodeLemmas.{best-is}
use Rattle.hu_lengths.proofs.bounds.most_at.Goals as goal

pub total-requires-clause-least : goal.total-requires-clause-least
total-requires-clause-least c =
    let values = values_after c.args.last (map dense_pair c.deref.result.now) in
    subst NoLoss (sym (c.deref-2.ensures.value ∙ c.in_ok-best.ensures))
    (each-take (λ y. pos 0 ≤ℤ y) c.args.room (falling values) (falling-least values (values_after-least c.args.last (map dense_pair c.deref.result.now))))

pub total-requires-clause-fits : goal.total-requires-clause-fits
total-requires-clause-fits c =
    let best = best-is c.args.records.now c.args.last c.args.room c.args.node.now c.index-records-node.result c.deref.result.now c.deref-2.result.now
    c.requires.node c.index-records-node.is c.deref.ensures.value (c.deref-2.ensures.value ∙ c.in_ok-best.ensures) in
    let least = best.least in
    let within = best.within in
    omega (arith, ints, least, within, c.requires.fits)

pub overflow_add-node : goal.overflow_add-node
overflow_add-node c =
    let best = best-is c.args.records.now c.args.last c.args.room c.args.node.now c.index-records-node.result c.deref.result.now c.deref-2.result.now
    c.requires.node c.index-records-node.is c.deref.ensures.value (c.deref-2.ensures.value ∙ c.in_ok-best.ensures) in
    let least = best.least in
    let within = best.within in
    omega (arith, ints, least, within, c.requires.fits, c.total.ensures)

pub returns : goal.returns
returns c =
    let node = c.args.node.now in
    let best = best-is c.args.records.now c.args.last c.args.room c.args.node.now c.index-records-node.result c.deref.result.now c.deref-2.result.now
    c.requires.node c.index-records-node.is c.deref.ensures.value (c.deref-2.ensures.value ∙ c.in_ok-best.ensures) in
    let least = best.least in
    let within = best.within in
    let sum : to_z w128 (of_z w128 (to_z w128 (of_z w128 node.own) +ℤ to_z w128 (of_z w128 c.total.result))) ≡ node.own +ℤ sum_of c.deref-2.result.now =
    omega (arith, ints, least, within, c.requires.fits, c.total.ensures) in
    let worth : c.positive_part.result ≡ positive_part (node.own +ℤ sum_of c.deref-2.result.now) = c.positive_part.ensures.value ∙ ap positive_part sum in
    let part = positive_part-within (node.own +ℤ sum_of c.deref-2.result.now) in
    let kept : to_z w128 (of_z w128 c.positive_part.result) ≡ positive_part (node.own +ℤ sum_of c.deref-2.result.now) =
    omega (arith, ints, worth, part, least, within, c.requires.fits) in
    kept ∙ ap (λ z. positive_part (node.own +ℤ z)) best.is
