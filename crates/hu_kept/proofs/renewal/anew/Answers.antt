use Rattle.std.proofs.Common.{rules, ◌≡◌, [], subst, IfOk}
use Rattle.hu_base.specs.Base.{records_of}
use Rattle.hu_collect.specs.Rule.{rule_of}
use Rattle.hu_kept.specs.Limited.{content_in, rule_in}
use Rattle.hu_kept.proofs.RenewalLemmas.{anew-answer}
use Rattle.hu_kept.proofs.renewal.anew.Goals as goal

pub returns : goal.returns
returns g c =
    let records = records_of c.args.base.now in
    let start = c.in_ok-start.start in
    let collect = c.new-collect.result in
    let by : rule_in collect ≡ rule_of start c.args.aim.top = search rules in
    let empty : content_in collect ≡ [] = search rules in
    let alike = c.in_ok-start.ensures.alike records c.in_ok-totals.ensures.value in
    subst (λ content. IfOk c.entries_of.result (λ entries. entries.items ≡ content))
    (anew-answer c.args.aim records start (rule_in collect) (content_in collect) alike by empty) c.entries_of.ensures
