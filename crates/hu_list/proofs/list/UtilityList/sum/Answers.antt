use Rattle.std.proofs.Common.{ap, ◌∙◌, arith}
use Rattle.std.proofs.lemmas.Int.{ints}
use Rattle.hu_list.specs.Bounds.{own_sum}
use Rattle.hu_list.proofs.NodeSums.{own_sum-all}
use Rattle.hu_list.proofs.ListLemmas.{utility-list}
use Rattle.hu_list.proofs.list.UtilityList.sum.Goals as goal

pub returns-clause-utility : goal.returns-clause-utility
returns-clause-utility c records ranks list =
    let is = c.own_sum.ensures ∙ ap own_sum c.nodes.ensures.value in
    let e = utility-list c.args.self.now c.own_sum.result is records ranks list in
    let within = own_sum-all c.args.self.now in
    let fits = c.nodes.ensures.fits in
    omega (arith, ints, e, is, within, fits)
