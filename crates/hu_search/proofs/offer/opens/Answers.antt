use Rattle.hu_search.proofs.OpenLemmas.{can_open, barren-shut}
use Rattle.hu_search.proofs.offer.opens.Goals as goal

pub opens-requires : goal.opens-requires
opens-requires g c =
    can_open (g.C.Collect.state c.args.collect.now).rule.table c.args.ranked.now.items c.args.ranks.now c.args.rank c.in_ok-key.key
    c.requires.rests c.requires.ascending c.requires.table c.in_ok-key.ensures

pub returns : goal.returns
returns g c shut =
    barren-shut c.args.ranked.now (g.C.Collect.state c.args.collect.now) c.args.ranks.now c.args.rank c.in_ok-key.key c.requires.rules c.requires.rests
    c.in_ok-key.ensures (c.opens.ensures.law shut)
