use Rattle.std.proofs.Common.{◌≡◌, ◌∙◌, ap, sym, subst, IfOk, rules}
use Rattle.std.specs.Int.{w128}
use Rattle.std.proofs.lemmas.Int.{to_z-of_z}
use Rattle.hu_kind.specs.Answer.{closed_answer}
use Rattle.hu_kind.specs.Itemsets.{item_patterns, closed_patterns}
use Rattle.hu_base.specs.Base.{records_of}
use Rattle.hu_collect.specs.Limited.{limited_state}
use Rattle.hu_collect.specs.State.{fresh, offered}
use Rattle.hu_closed.specs.ClosedOnly.{closed_state}
use Rattle.hu_mine.proofs.mine.closed_from.Goals as goal

pub returns : goal.returns
returns c =
    let records = records_of c.args.base in
    let inner = c.new-limited.result in
    let began : limited_state inner ≡ fresh c.args.wanted.least c.args.wanted.top = c.new-limited.ensures
    ∙ ap (λ n. fresh n c.args.wanted.top) (to_z-of_z w128 c.args.wanted.least (search rules)) in
    let first = c.new-collect.ensures.state in
    let sets = c.requires.sets in
    let last = c.into_inner.result in
    let searched = c.in_ok-search.ensures in
    let whole : (limited_state last).content ≡ closed_answer records c.args.wanted.least c.args.wanted.top =
    sym (ap (λ s. s.content) c.into_inner.ensures.state)
    ∙ ap (λ s. s.content) (searched ∙ ap (λ s. offered s (item_patterns records)) first)
    ∙ ap (λ rs. (offered (closed_state (limited_state inner) c.args.sets.now c.args.ranked.now.items) (item_patterns rs)).content) (sym sets)
    ∙ ap (λ s. s.content) c.new-collect.ensures.patterns
    ∙ ap (λ rs. (offered (limited_state inner) (closed_patterns rs)).content) sets
    ∙ ap (λ s. (offered s (closed_patterns records)).content) began in
    subst (λ content. IfOk c.into_entries.result (λ entries. entries.items ≡ content)) whole c.into_entries.ensures
