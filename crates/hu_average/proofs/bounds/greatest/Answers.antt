use Rattle.std.proofs.Common.{pos, arith, add-one}
use Rattle.std.proofs.lemmas.Int.{ints, clamps}
use Rattle.hu_average.proofs.BoundLemmas.{greatest-next}
use Rattle.hu_average.proofs.bounds.greatest.Goals as goal

pub loop-cell-preserved : goal.loop-cell-preserved
loop-cell-preserved c =
    let next = rw (← add-one) at (greatest-next c.args.cells.now c.loop-cell.cell-index (record { rank = 0; value = pos 0 }) c.loop-cell-test.true) in
    omega (arith, ints, clamps, next, c.loop-cell.invariant, c.max-most.ensures.value)
