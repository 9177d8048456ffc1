use Rattle.std.proofs.Common.{arith}
use Rattle.std.proofs.lemmas.Int.{ints}
use Rattle.hu_average.specs.Totals.{total_with, plus}
use Rattle.hu_average.proofs.TailLemmas.{total-equal}
use Rattle.hu_average.proofs.totals.RankTotal.with.Goals as goal

pub returns : goal.returns
returns c =
    let u = c.requires.utility in
    let m = c.requires.bound in
    total-equal _ (plus c.args.self (total_with c.args.value 1 c.args.most)) (omega (arith, ints, u)) (omega arith) (omega (arith, ints, m))
