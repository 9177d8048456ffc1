use Rattle.std.proofs.Common.{◌≡◌, take, map}
use Rattle.hu_totals.specs.View.{pairs_in}
use Rattle.hu_lengths.specs.Bound.{most_of}
use Rattle.hu_lengths.proofs.bounds.bound.Given as goal

abbrev pub invariant-loop-node : goal.invariant-loop-node
invariant-loop-node l = l.sum ≡ most_of (map pairs_in l.records) l.last l.room (take l.node-index l.node-items)
