use Rattle.std.proofs.Common.{◌≡◌, map, take}
use Rattle.hu_totals.specs.Weights.{weight_of, weights}
use Rattle.hu_totals.proofs.weights.weigh.Given as goal

abbrev pub invariant-loop-index : goal.invariant-loop-index
invariant-loop-index l = map weight_of l.weighed.items ≡ weights l.order l.floor (take l.index l.totals)
