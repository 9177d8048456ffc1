use Rattle.std.proofs.Common.{◌≡◌, ◌∙◌, ap, subst, rules, IfOk}
use Rattle.std.specs.Int.{w128}
use Rattle.std.proofs.lemmas.Int.{to_z-of_z}
use Rattle.hu_kind.specs.Answer.{item_answer}
use Rattle.hu_base.specs.Base.{records_of}
use Rattle.hu_mine.proofs.mine.ranked_items.Goals as goal

pub returns : goal.returns
returns c =
    let records = records_of c.args.base in
    let exact = to_z-of_z w128 c.in_ok-least.least (search rules) in
    let alike = c.in_ok-least.ensures.alike records c.in_ok-totals.ensures.value in
    let least = to_z-of_z w128 c.args.wanted.least (search rules) in
    subst (λ answer. IfOk c.items_from.result (λ entries. entries.items ≡ answer))
    (ap (λ start. item_answer records start c.args.wanted.top) exact ∙ alike
    ∙ ap (λ least. item_answer records least c.args.wanted.top) least) c.items_from.ensures
