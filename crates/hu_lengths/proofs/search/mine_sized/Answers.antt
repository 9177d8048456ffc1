use Rattle.std.proofs.Common.{sym, subst}
use Rattle.hu_list.specs.Lengths.{WantsUpto}
use Rattle.hu_lengths.specs.LengthsOnly.{sized_rule, inner_of, short_of, long_of}
use Rattle.hu_lengths.proofs.lemmas.SizedLemmas.{wants-upto}
use Rattle.hu_lengths.proofs.search.mine_sized.Goals as goal

pub mine_upto-requires-clause-long : goal.mine_upto-requires-clause-long
mine_upto-requires-clause-long g c =
    let v = c.args.collect.now in
    let inner = (g.C.Collect.state (inner_of v)).rule in
    subst (WantsUpto (sized_rule (short_of v) (long_of v) inner) c.args.ranked.now.items) (sym c.long-long.ensures)
    (wants-upto (short_of v) (long_of v) inner c.args.ranked.now c.records-records.ensures.rules)
