use Rattle.std.proofs.Common.{◌≡◌, ◌∙◌, ap, sym, subst, option_copied, IfOk}
use Rattle.std.specs.List.{AllByRecursion}
use Rattle.hu_kind.specs.Record.{IsRecord}
use Rattle.hu_base.specs.Base.{records_of}
use Rattle.hu_kept.specs.Limited.{content_in}
use Rattle.hu_closed.specs.ClosedOnly.{inner_of, records_in, table_of}
use Rattle.hu_closed.proofs.lemmas.RankLemmas.{IsRankingOf-ordered}
use Rattle.hu_kept.proofs.ClosedParts.{made-closed_around}
use Rattle.hu_kept.proofs.renewal.closed_entries.Goals as goal

pub new-collect-requires-clause-base : goal.new-collect-requires-clause-base
new-collect-requires-clause-base g c =
    let ranks = c.requires.ranks in
    IsRankingOf-ordered ranks.0 ranks.1 (records_of c.args.base.now) c.in_ok-sets.sets c.args.ranked.now c.in_ok-sets.ensures ranks.2

pub returns : goal.returns
returns g c =
    let records = records_of c.args.base.now in
    let around = c.new-collect.result in
    let all : AllByRecursion IsRecord records = subst (AllByRecursion IsRecord) (c.sets.view_is ∙ c.in_ok-sets.ensures) c.sets.invariant.rules in
    let is = made-closed_around (option_copied c.args.batch) c.args.collect (inner_of around) records (records_in around) (table_of around)
    (content_in (inner_of c.in_ok-found.found)) (content_in c.into_inner.result) all
    c.new-collect.ensures.inner (c.new-collect.ensures.records ∙ c.in_ok-sets.ensures)
    (c.in_ok-found.ensures records c.requires.patterns) (sym (ap (λ s. s.content) c.into_inner.ensures.state)) in
    subst (λ content. IfOk c.into_entries.result (λ entries. entries.items ≡ content)) is c.into_entries.ensures
