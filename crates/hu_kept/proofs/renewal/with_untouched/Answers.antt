use Rattle.std.proofs.Common.{rules, ◌≡◌, ◌∷◌, subst}
use Rattle.hu_collect.specs.Rule.{rule_of}
use Rattle.hu_kept.specs.Limited.{content_in, rule_in}
use Rattle.hu_kept.specs.Entries.{entries_from, entry_from}
use Rattle.hu_kept.proofs.RenewalLemmas.{Offers, Offers-next}
use Rattle.hu_kept.proofs.renewal.with_untouched.Goals as goal

pub loop-key-preserved : goal.loop-key-preserved
loop-key-preserved c =
    let r = rule_of c.args.aim.least c.args.aim.top in
    let old = entries_from c.args.old.now.entries in
    let collect = c.loop-key.collect in
    let next = c.offer_untouched.new.collect in
    let step : c.loop-key.key-iterator ≡ (c.in-Some.key.now, c.in-Some.held.now) ∷ c.next.new.self = search rules in
    let before = subst (λ es. Offers r c.args.batch.now old (rule_in collect) (content_in collect) (entries_from es)) step c.loop-key.invariant in
    Offers-next r c.args.batch.now old (rule_in collect) (rule_in next) (content_in collect) (content_in next)
    (entry_from (c.in-Some.key.now, c.in-Some.held.now)) (entries_from c.next.new.self)
    before c.in_ok-offer_untouched.ensures.rule c.in_ok-offer_untouched.ensures.ok
