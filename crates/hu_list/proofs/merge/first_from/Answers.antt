use Rattle.std.proofs.Common.{ap, sym, ◌∙◌, length, leb, unwrap_or, subst, ◌≤◌}
use Rattle.hu_list.specs.declared.list.Node.{Node}
use Rattle.hu_list.proofs.lemmas.Positions.{position_or_len-le, unwrap_or-position}
use Rattle.hu_list.proofs.merge.first_from.Goals as goal

pub returns-clause-value : goal.returns-clause-value
returns-clause-value c =
    let nodes = c.args.nodes.now in
    c.unwrap_or.ensures ∙ ap (λ o. unwrap_or o (length nodes)) c.place_of.ensures ∙ unwrap_or-position (λ (node : Node). leb c.args.place node.place) nodes

pub returns-clause-within : goal.returns-clause-within
returns-clause-within c =
    let nodes = c.args.nodes.now in
    let value = c.unwrap_or.ensures ∙ ap (λ o. unwrap_or o (length nodes)) c.place_of.ensures
    ∙ unwrap_or-position (λ (node : Node). leb c.args.place node.place) nodes in
    subst (λ n. n ≤ length nodes) (sym value) (position_or_len-le (λ (node : Node). leb c.args.place node.place) nodes)
