use Rattle.std.proofs.Common.{sym, ◌∙◌, subst}
use Rattle.hu_list.specs.Joins.{merged, AllFit}
use Rattle.std.specs.Option.{option_copied}
use Rattle.hu_list.proofs.MergeLemmas.{merged-joins, AllFit-joins, weight-joins}
use Rattle.hu_list.proofs.list.UtilityList.join.Goals as goal

pub merged-requires : goal.merged-requires
merged-requires c =
    let fit = AllFit-joins (option_copied c.args.prefix) c.args.x.now c.args.y.now c.requires.0 c.requires.1 c.requires.2 c.requires.3 c.requires.4 in
    let with_before = subst (λ b. AllFit b c.args.x.now c.args.y.now) (sym c.nodes_before.ensures) fit in
    let with_first = subst (λ w. AllFit c.nodes_before.result.now w c.args.y.now) (sym c.nodes.ensures.value) with_before in
    subst (λ w. AllFit c.nodes_before.result.now c.nodes.result.now w) (sym c.nodes-2.ensures.value) with_first

pub invariant_of-result : goal.invariant_of-result
invariant_of-result c =
    weight-joins (option_copied c.args.prefix) c.args.x.now c.args.y.now c.requires.0 c.requires.1 c.requires.2
    c.requires.3 c.requires.4 c.in_ok-nodes.nodes.items
    (c.in_ok-nodes.ensures ∙ (λ j. merged (c.nodes_before.ensures j) (c.nodes.ensures.value j) (c.nodes-2.ensures.value j)))

pub returns : goal.returns
returns c records ranks a b joins =
    c.in_ok-nodes.ensures ∙ (λ j. merged (c.nodes_before.ensures j) (c.nodes.ensures.value j) (c.nodes-2.ensures.value j))
    ∙ merged-joins (option_copied c.args.prefix) c.args.x.now c.args.y.now records ranks a b joins
