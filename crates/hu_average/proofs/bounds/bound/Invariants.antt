use Rattle.std.proofs.Common.{◌≡◌, take, map}
use Rattle.hu_totals.specs.View.{pairs_in}
use Rattle.hu_average.specs.Bound.{greatest_over}
use Rattle.hu_average.proofs.bounds.bound.Given as goal

abbrev pub invariant-loop-node : goal.invariant-loop-node
invariant-loop-node l = l.sum ≡ greatest_over (map pairs_in l.records) (take l.node-index l.node-items)
