use Rattle.std.proofs.Common.{◌≡◌, ◌<◌, ◌^◌, pos, map, sym, ap, ◌∙◌, subst, arith, length, take, sum_by, to_z}
use Rattle.std.specs.Int.{w128}
use Rattle.std.proofs.lemmas.Int.{ints}
use Rattle.std.proofs.lemmas.List.{take_all, length-map}
use Rattle.hu_kind.specs.Record.{absolute_of}
use Rattle.hu_totals.specs.View.{pairs_in}
use Rattle.hu_list.specs.declared.list.Node.{Node}
use Rattle.hu_average.specs.Bound.{greatest_over, BoundsList}
use Rattle.hu_average.proofs.BoundLemmas.{AreNodes, are-nodes, is-bound, bounds-list, sum-step, place-within}
use Rattle.hu_average.proofs.bounds.bound.Goals as goal

-- a node past the end
no_node : Node
no_node = record { place = 0; own = pos 0; rest = pos 0 }

pub greatest_at-sum-requires : goal.greatest_at-sum-requires
unfolding no_node
greatest_at-sum-requires c =
    let r = c.args.ranked.now in
    let nodes = c.nodes-node-items.result.now in
    let all = subst (AreNodes r.records) (sym c.nodes-node-items.ensures.value) (are-nodes r c.args.list.now c.requires.list) in
    let within = place-within r.records nodes c.loop-node.node-index no_node all c.loop-node-test.true in
    let same = ap length c.records-records.ensures.value in
    omega (arith, within, same, length-map c.records-records.result.now pairs_in)

pub overflow_add-sum : goal.overflow_add-sum
unfolding no_node
overflow_add-sum c =
    let r = c.args.ranked.now in
    let nodes = c.nodes-node-items.result.now in
    let records = map pairs_in c.records-records.result.now in
    let all = subst (λ rs. AreNodes rs nodes) (sym c.records-records.ensures.value)
    (subst (AreNodes r.records) (sym c.nodes-node-items.ensures.value) (are-nodes r c.args.list.now c.requires.list)) in
    let fits = subst (λ rs. sum_by absolute_of rs < 2 ^ 127) (sym c.records-records.ensures.value) c.records-records.ensures.rules.sum_fits in
    let step = sum-step records nodes c.loop-node.node-index no_node all fits c.loop-node-test.true
    (to_z w128 c.loop-node.sum-bits) c.greatest_at-sum.result
    c.loop-node.invariant c.greatest_at-sum.ensures in
    omega (arith, ints, step.0, c.greatest_at-sum.type_inv)

pub loop-node-preserved : goal.loop-node-preserved
unfolding no_node
loop-node-preserved c =
    let r = c.args.ranked.now in
    let nodes = c.nodes-node-items.result.now in
    let records = map pairs_in c.records-records.result.now in
    let all = subst (λ rs. AreNodes rs nodes) (sym c.records-records.ensures.value)
    (subst (AreNodes r.records) (sym c.nodes-node-items.ensures.value) (are-nodes r c.args.list.now c.requires.list)) in
    let fits = subst (λ rs. sum_by absolute_of rs < 2 ^ 127) (sym c.records-records.ensures.value) c.records-records.ensures.rules.sum_fits in
    let step = sum-step records nodes c.loop-node.node-index no_node all fits c.loop-node-test.true
    (to_z w128 c.loop-node.sum-bits) c.greatest_at-sum.result
    c.loop-node.invariant c.greatest_at-sum.ensures in
    omega (arith, ints, step.0, step.1, c.greatest_at-sum.type_inv)

pub returns-clause-value : goal.returns-clause-value
returns-clause-value c =
    let r = c.args.ranked.now in
    let nodes = c.nodes-node-items.result.now in
    let whole : to_z w128 c.loop-node.sum-bits ≡ greatest_over r.records c.args.list.now =
    c.loop-node.invariant
    ∙ (λ j. greatest_over (c.records-records.ensures.value j) (take c.loop-node.node-index nodes))
    ∙ ap (greatest_over r.records) (take_all c.loop-node.node-index nodes (omega (arith, c.loop-node-test.false)) ∙ c.nodes-node-items.ensures.value) in
    λ set is. whole ∙ is-bound r c.args.list.now set is

pub returns-clause-law : goal.returns-clause-law
returns-clause-law c =
    let r = c.args.ranked.now in
    let nodes = c.nodes-node-items.result.now in
    let whole : to_z w128 c.loop-node.sum-bits ≡ greatest_over r.records c.args.list.now =
    c.loop-node.invariant
    ∙ (λ j. greatest_over (c.records-records.ensures.value j) (take c.loop-node.node-index nodes))
    ∙ ap (greatest_over r.records) (take_all c.loop-node.node-index nodes (omega (arith, c.loop-node-test.false)) ∙ c.nodes-node-items.ensures.value) in
    subst (BoundsList r c.args.list.now) (sym whole) (bounds-list r c.args.list.now)
