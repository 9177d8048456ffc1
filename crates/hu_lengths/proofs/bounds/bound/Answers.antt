use Rattle.std.proofs.Common.{◌≡◌, ◌<◌, ◌^◌, suc, pos, map, sym, ap, ◌∙◌, subst, arith, add-one, sum_by, to_z}
use Rattle.std.specs.List.{AllByRecursion}
use Rattle.std.specs.Int.{w128}
use Rattle.std.proofs.lemmas.Int.{ints}
use Rattle.std.proofs.lemmas.List.{take_all}
use Rattle.hu_kind.proofs.lemmas.Each.{each-get}
use Rattle.hu_totals.specs.View.{pairs_in}
use Rattle.hu_list.specs.declared.list.Node.{Node}
use Rattle.hu_list.specs.Nodes.{weight_of}
use Rattle.hu_lengths.specs.Bound.{most_of, IsNodeAt}
use Rattle.hu_lengths.proofs.NodeLemmas.{nodes-at, most_of-list, most_of-next, most_of-within, bounds-sized}
use Rattle.hu_lengths.proofs.bounds.bound.Goals as goal

-- a node past the end
no_node : Node
no_node = record { place = 0; own = pos 0; rest = pos 0 }

pub most_at-requires-clause-node : goal.most_at-requires-clause-node
unfolding no_node
most_at-requires-clause-node c =
    let nodes = c.nodes-node-items.result.now in
    let last = c.args.last in
    let all : AllByRecursion (IsNodeAt (map pairs_in c.records-records.result.now) last) nodes =
    subst (λ rs. AllByRecursion (IsNodeAt rs last) nodes) (sym c.records-records.ensures.value)
    (subst (AllByRecursion (IsNodeAt c.args.ranked.now.records last)) (sym c.nodes-node-items.ensures.value)
    (nodes-at c.args.ranked.now c.records-records.ensures.rules c.args.list.now last c.requires.list)) in
    each-get (IsNodeAt (map pairs_in c.records-records.result.now) last) nodes c.loop-node.node-index no_node all c.loop-node-test.true

pub overflow_add-sum : goal.overflow_add-sum
unfolding no_node
overflow_add-sum c =
    let nodes = c.nodes-node-items.result.now in
    let last = c.args.last in
    let records = map pairs_in c.records-records.result.now in
    let all : AllByRecursion (IsNodeAt records last) nodes =
    subst (λ rs. AllByRecursion (IsNodeAt rs last) nodes) (sym c.records-records.ensures.value)
    (subst (AllByRecursion (IsNodeAt c.args.ranked.now.records last)) (sym c.nodes-node-items.ensures.value)
    (nodes-at c.args.ranked.now c.records-records.ensures.rules c.args.list.now last c.requires.list)) in
    let fits : sum_by weight_of nodes < 2 ^ 127 = subst (λ ns. sum_by weight_of ns < 2 ^ 127)
    (sym c.nodes-node-items.ensures.value) c.nodes-node-items.ensures.fits in
    let next = most_of-next records last c.args.room nodes c.loop-node.node-index no_node c.loop-node-test.true in
    let within = most_of-within records last c.args.room nodes (suc c.loop-node.node-index) all in
    let before = most_of-within records last c.args.room nodes c.loop-node.node-index all in
    omega (arith, ints, next, within.0, within.1, before.0, before.1, fits, c.loop-node.invariant, c.in_ok-sum.ensures)

pub loop-node-preserved : goal.loop-node-preserved
unfolding no_node
loop-node-preserved c =
    let nodes = c.nodes-node-items.result.now in
    let last = c.args.last in
    let records = map pairs_in c.records-records.result.now in
    let all : AllByRecursion (IsNodeAt records last) nodes =
    subst (λ rs. AllByRecursion (IsNodeAt rs last) nodes) (sym c.records-records.ensures.value)
    (subst (AllByRecursion (IsNodeAt c.args.ranked.now.records last)) (sym c.nodes-node-items.ensures.value)
    (nodes-at c.args.ranked.now c.records-records.ensures.rules c.args.list.now last c.requires.list)) in
    let fits : sum_by weight_of nodes < 2 ^ 127 = subst (λ ns. sum_by weight_of ns < 2 ^ 127)
    (sym c.nodes-node-items.ensures.value) c.nodes-node-items.ensures.fits in
    let next = rw (← add-one) at (most_of-next records last c.args.room nodes c.loop-node.node-index no_node c.loop-node-test.true) in
    let within = rw (← add-one) at (most_of-within records last c.args.room nodes (suc c.loop-node.node-index) all) in
    let before = most_of-within records last c.args.room nodes c.loop-node.node-index all in
    omega (arith, ints, next, within.0, within.1, before.0, before.1, fits, c.loop-node.invariant, c.in_ok-sum.ensures)

pub returns-clause-value : goal.returns-clause-value
returns-clause-value c =
    let nodes = c.nodes-node-items.result.now in
    let last = c.args.last in
    let room = c.args.room in
    let whole : to_z w128 c.loop-node.sum-bits ≡ most_of c.args.ranked.now.records last room c.args.list.now =
    c.loop-node.invariant
    ∙ ap (most_of (map pairs_in c.records-records.result.now) last room) (take_all c.loop-node.node-index nodes
    (omega (arith, c.loop-node-test.false)) ∙ c.nodes-node-items.ensures.value)
    ∙ ap (λ rs. most_of rs last room c.args.list.now) c.records-records.ensures.value in
    λ set list. whole ∙ most_of-list c.args.ranked.now c.args.list.now last room set list

pub returns-clause-law : goal.returns-clause-law
returns-clause-law c =
    bounds-sized c.args.ranked.now c.records-records.ensures.rules c.args.list.now c.args.last c.args.room (to_z w128 c.loop-node.sum-bits)
    (returns-clause-value c)
