use Rattle.std.proofs.Common.{sym, arith}
use Rattle.hu_span.proofs.KeptLemmas.{among-found, among-past}
use Rattle.hu_span.proofs.kept.is_among.Goals as goal

pub returns-in-Some : goal.returns-in-Some
returns-in-Some c =
    let lookup = c.in-Some.ensures.lookup in
    among-found c.args.item.0 c.args.items.now c.items_below.result c.in-Some.found.now c.requires c.items_below.ensures.splits lookup.3.0 (λ d. sym
    (lookup.3.1 d))

pub returns-in-None : goal.returns-in-None
returns-in-None c =
    let lookup = c.in-None.ensures.lookup in
    sym (among-past c.args.item.0 c.args.items.now c.items_below.result c.requires c.items_below.ensures.splits (λ d within e. absurd (omega
    (arith, lookup.3))))
