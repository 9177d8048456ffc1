use Rattle.std.proofs.Common.{pos, ◌+◌, arith, add-one}
use Rattle.std.proofs.lemmas.Int.{ints}
use Rattle.hu_list.specs.declared.list.Node.{Node}
use Rattle.hu_list.proofs.NodeSums.{own_sum-more, own_sum-within}
use Rattle.hu_list.proofs.list.own_sum.Goals as goal

-- a node past the end
no_node : Node
no_node = record { place = 0; own = pos 0; rest = pos 0 }

pub overflow_add-sum : goal.overflow_add-sum
unfolding no_node
overflow_add-sum c =
    let within = own_sum-within c.args.nodes.now (c.loop-node.node-index + 1) in
    let more = rw (← add-one) at (own_sum-more c.args.nodes.now c.loop-node.node-index no_node c.loop-node-test.true) in
    let so_far = c.loop-node.invariant in
    omega (arith, ints, within, more, so_far, c.requires)

pub loop-node-preserved : goal.loop-node-preserved
unfolding no_node
loop-node-preserved c =
    let within = own_sum-within c.args.nodes.now (c.loop-node.node-index + 1) in
    let more = rw (← add-one) at (own_sum-more c.args.nodes.now c.loop-node.node-index no_node c.loop-node-test.true) in
    let so_far = c.loop-node.invariant in
    omega (arith, ints, within, more, so_far, c.requires)
