use Rattle.std.proofs.Common.{◌≡◌, take}
use Rattle.hu_lengths.specs.Bound.{sum_of}
use Rattle.hu_lengths.proofs.bounds.total.Given as goal

abbrev pub invariant-loop-value : goal.invariant-loop-value
invariant-loop-value l = l.sum ≡ sum_of (take l.value-index l.values)
