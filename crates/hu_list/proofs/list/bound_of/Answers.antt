use Rattle.std.proofs.Common.{pos, ◌+◌, arith, add-one}
use Rattle.std.proofs.lemmas.Int.{ints}
use Rattle.hu_list.specs.declared.list.Node.{Node}
use Rattle.hu_list.proofs.NodeSums.{bound_of-more, bound_of-within}
use Rattle.hu_list.proofs.list.bound_of.Goals as goal

-- a node past the end
no_node : Node
no_node = record { place = 0; own = pos 0; rest = pos 0 }

pub overflow_add-bound : goal.overflow_add-bound
unfolding no_node
overflow_add-bound c =
    let within = bound_of-within c.args.nodes.now (c.loop-node.node-index + 1) in
    let more = rw (← add-one) at (bound_of-more c.args.nodes.now c.loop-node.node-index no_node c.loop-node-test.true) in
    let so_far = c.loop-node.invariant in
    omega (arith, ints, within, more, so_far, c.requires)

pub loop-node-preserved : goal.loop-node-preserved
unfolding no_node
loop-node-preserved c =
    let within = bound_of-within c.args.nodes.now (c.loop-node.node-index + 1) in
    let more = rw (← add-one) at (bound_of-more c.args.nodes.now c.loop-node.node-index no_node c.loop-node-test.true) in
    let so_far = c.loop-node.invariant in
    omega (arith, ints, within, more, so_far, c.requires)
