use Rattle.std.proofs.Common.{pos, suc, arith, add-one}
use Rattle.std.proofs.lemmas.Int.{ints}
use Rattle.hu_lengths.proofs.GreatestLemmas.{first_sum-least, first_sum-within}
use Rattle.hu_lengths.proofs.NodeLemmas.{first_sum-next}
use Rattle.hu_lengths.proofs.bounds.total.Goals as goal

pub overflow_add-sum : goal.overflow_add-sum
overflow_add-sum c =
    let i = c.loop-value.value-index in
    let next = first_sum-next c.args.values.now i (pos 0) c.loop-value-test.true in
    let within = first_sum-within (suc i) c.args.values.now c.requires.least in
    let least = first_sum-least (suc i) c.args.values.now c.requires.least in
    omega (arith, ints, next, within, least, c.loop-value.invariant, c.requires.fits)

pub loop-value-preserved : goal.loop-value-preserved
loop-value-preserved c =
    let i = c.loop-value.value-index in
    let next = rw (← add-one) at (first_sum-next c.args.values.now i (pos 0) c.loop-value-test.true) in
    let within = rw (← add-one) at (first_sum-within (suc i) c.args.values.now c.requires.least) in
    let least = rw (← add-one) at (first_sum-least (suc i) c.args.values.now c.requires.least) in
    omega (arith, ints, next, within, least, c.loop-value.invariant, c.requires.fits)
