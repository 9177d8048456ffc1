use Rattle.std.proofs.Common.{rules, ◌≡◌, ◌∷◌, ◌∙◌, subst}
use Rattle.hu_lengths.proofs.OfferLemmas.{IsPart, part-next, part-some, stopped}
use Rattle.hu_lengths.proofs.search.offer_all.Goals as goal

pub loop-entry-preserved : goal.loop-entry-preserved
loop-entry-preserved g c =
    let rest = c.next.new.self.rest.items in
    let step : c.loop-entry.entry-iterator.rest.items ≡ c.in-Some.entry ∷ rest = search rules in
    part-next c.in-Some.entry
    (subst (IsPart (g.C.Collect.state c.args.collect.now) (g.C.Collect.state c.loop-entry.collect) c.args.entries.items) step c.loop-entry.invariant)
    c.in_ok-offer.ensures

pub returns-in_err-offer : goal.returns-in_err-offer
returns-in_err-offer g c =
    let some = part-some c.loop-entry.invariant in
    stopped (g.C.Collect.state c.args.collect.now) (g.C.Collect.state c.offer.new.self) c.args.entries.items
    c.from_residual.result c.from_residual.ensures.0 (some.0, some.1, c.in_err-offer.ensures ∙ some.2)
