use Rattle.std.proofs.Common.{◌≡◌, take, map}
use Rattle.hu_totals.specs.View.{dense_pair}
use Rattle.hu_average.specs.Bound.{greatest}
use Rattle.hu_average.proofs.bounds.greatest.Given as goal

abbrev pub invariant-loop-cell : goal.invariant-loop-cell
invariant-loop-cell l = l.most ≡ greatest (map dense_pair (take l.cell-index l.cells))
