use Rattle.std.proofs.Common.{◌≡◌, take}
use Rattle.hu_list.specs.Bounds.{bound_of}
use Rattle.hu_list.proofs.list.bound_of.Given as goal

abbrev pub invariant-loop-node : goal.invariant-loop-node
invariant-loop-node l = l.bound ≡ bound_of (take l.node-index l.nodes)
