use Rattle.std.proofs.Common.{arith}
use Rattle.std.specs.Int.{w128}
use Rattle.std.proofs.lemmas.Int.{ints, to_z-of_z}
use Rattle.hu_totals.proofs.lemmas.AddingLemmas.{same_total}
use Rattle.hu_kind.proofs.lemmas.Earned.{positive_part-within}
use Rattle.hu_totals.proofs.totals.ItemTotal.with.Goals as goal

pub overflow_add-result-2 : goal.overflow_add-result-2
overflow_add-result-2 c =
    let part = rw (to_z-of_z w128 c.args.value c.ranges.value) at c.positive_part.ensures.value in
    let within = positive_part-within c.args.value in
    omega (arith, ints)

pub returns : goal.returns
returns c =
    let part = rw (to_z-of_z w128 c.args.value c.ranges.value) at c.positive_part.ensures.value in
    let within = positive_part-within c.args.value in
    same_total _ _ _ _ _ _ _ _ (omega (arith, ints)) (omega (arith, ints)) (omega arith) (omega (arith, ints))
