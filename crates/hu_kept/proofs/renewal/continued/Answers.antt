use Rattle.std.proofs.Common.{◌≡◌, ◌∙◌, [], length, ap, sym, subst, arith, IfOk}
use Rattle.hu_base.specs.Base.{records_of}
use Rattle.hu_collect.specs.Rule.{made, rule_of}
use Rattle.hu_kept.specs.Kept.{patterns_of}
use Rattle.hu_kept.specs.Limited.{content_in, rule_in}
use Rattle.hu_kept.specs.Entries.{entries_from}
use Rattle.hu_kept.specs.Holders.{AreHolders}
use Rattle.hu_kept.specs.Shared.{shared}
use Rattle.hu_kept.specs.Touched.{touched_rule, untouched}
use Rattle.hu_kept.proofs.PlaceLemmas.{AreHolders-from}
use Rattle.hu_kept.proofs.RenewalLemmas.{continued-answer}
use Rattle.hu_kept.proofs.renewal.continued.Goals as goal

pub returns : goal.returns
returns g c =
    let batch = c.args.batch.now in
    let records = records_of c.args.base.now in
    let collect = c.in_ok-collect.collect in
    let r = rule_of c.args.aim.least c.args.aim.top in
    let old = entries_from c.args.old.now.entries in
    let by : rule_in collect ≡ r = c.in_ok-collect.ensures.rule in
    let is : content_in collect ≡ made r [] (untouched batch old) =
    c.in_ok-collect.ensures.content ∙ ap (λ b. made r [] (untouched b old)) c.sets-sets.ensures in
    let narrow : records_of c.in_ok-narrow.narrow ≡ shared batch records = c.in_ok-narrow.ensures in
    subst (λ content. IfOk c.entries_of.result (λ entries. entries.items ≡ content))
    ((λ j. made (touched_rule (rule_in collect) (c.sets-sets.ensures j)) (content_in collect) (patterns_of c.args.aim.closed (narrow j)))
    ∙ continued-answer c.args.aim records batch old (rule_in collect) (content_in collect) c.requires.continues by is)
    c.entries_of.ensures

pub shared-requires : goal.shared-requires
shared-requires g c =
    let batch = c.args.batch.now in
    let noted = c.args.holders.now in
    let records = records_of c.args.base.now in
    let all = ap length c.records.ensures in
    let holders = AreHolders-from batch noted records c.in_ok-places.places.items c.requires.noted c.in_ok-places.ensures.rising
    c.in_ok-places.ensures.held (λ place low high. c.in_ok-places.ensures.later place low (omega (arith, all, high))) in
    subst (AreHolders batch records) (sym c.deref.ensures.value) holders
