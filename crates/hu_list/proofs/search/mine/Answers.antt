use Rattle.std.proofs.Common.{sym, subst}
use Rattle.hu_list.specs.Lengths.{WantsUpto}
use Rattle.hu_list.proofs.LengthLemmas.{wants-all}
use Rattle.hu_list.proofs.search.mine.Goals as goal

pub mine_upto-requires-clause-long : goal.mine_upto-requires-clause-long
mine_upto-requires-clause-long g c =
    let rule = (g.C.Collect.state c.args.collect.now).rule in
    let items = c.args.ranked.now.items in
    subst (WantsUpto rule items) (sym c.len.ensures.value) (wants-all rule items)
