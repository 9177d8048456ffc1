use Rattle.std.proofs.Common.{rules}
use Rattle.hu_average.proofs.Quotients.{quotients-first}
use Rattle.hu_average.proofs.order.cmp_fractions.Goals as goal

pub returns : goal.returns
returns c =
    let e = quotients-first c.args.u c.args.n c.args.v c.args.m c.requires.some_n c.requires.some_m in
    search (rules, e)
