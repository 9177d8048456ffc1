use Rattle.std.proofs.Common.{◌≡◌, take}
use Rattle.hu_list.specs.Bounds.{own_sum}
use Rattle.hu_list.proofs.list.own_sum.Given as goal

abbrev pub invariant-loop-node : goal.invariant-loop-node
invariant-loop-node l = l.sum ≡ own_sum (take l.node-index l.nodes)
