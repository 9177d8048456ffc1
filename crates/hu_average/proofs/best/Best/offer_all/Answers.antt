use Rattle.std.proofs.Common.{rules, ◌≡◌, ◌∷◌, subst}
use Rattle.hu_average.proofs.BestLemmas.{IsPart, part-next}
use Rattle.hu_average.proofs.best.Best.offer_all.Goals as goal

pub loop-entry-preserved : goal.loop-entry-preserved
loop-entry-preserved c =
    let rest = c.next.new.self.rest.items in
    let step : c.loop-entry.entry-iterator.rest.items ≡ c.in-Some.entry ∷ rest = search rules in
    part-next c.in-Some.entry (subst (IsPart c.args.self.now c.loop-entry.self c.args.entries.items) step c.loop-entry.invariant) c.in_ok-offer.ensures
