use Rattle.std.proofs.Common.{rules, ◌≡◌, ◌∙◌, ap, sym, subst, IfOk}
use Rattle.std.specs.Int.{w128}
use Rattle.std.proofs.lemmas.Int.{to_z-of_z}
use Rattle.hu_kind.specs.Itemsets.{item_patterns}
use Rattle.hu_base.specs.Base.{records_in, records_of}
use Rattle.hu_collect.specs.Limited.{limited_state}
use Rattle.hu_collect.specs.State.{fresh, offered}
use Rattle.hu_lengths.specs.Lengths.{of_lengths, sized_answer}
use Rattle.hu_mine.proofs.SizedLemmas.{fresh-sized}
use Rattle.hu_mine.proofs.sized.sized_entries.Goals as goal

pub returns : goal.returns
returns c =
    let records = records_of c.in_ok-base.base in
    let patterns = item_patterns records in
    let a = c.args in
    let w = c.args.wanted in
    let inner = c.new.result in
    let began : limited_state inner ≡ fresh w.least w.top =
    c.new.ensures ∙ ap (λ n. fresh n w.top) (to_z-of_z w128 w.least (search rules)) in
    let last = c.into_inner.result in
    let whole : (limited_state last).content ≡ sized_answer (records_in a.batches.items) w.least w.top a.short a.long =
    sym (ap (λ s. s.content) c.into_inner.ensures.state)
    ∙ ap (λ s. s.content) (c.in_ok-search_sized.ensures ∙ ap (λ s. offered s patterns) c.new-collect.ensures.state)
    ∙ ap (λ s. s.content) (c.new-collect.ensures.patterns patterns)
    ∙ ap (λ s. (offered s (of_lengths a.short a.long patterns)).content) began
    ∙ fresh-sized w.least w.top a.short a.long patterns
    ∙ ap (λ rs. sized_answer rs w.least w.top a.short a.long) c.in_ok-base.ensures in
    subst (λ content. IfOk c.into_entries.result (λ entries. entries.items ≡ content)) whole c.into_entries.ensures
