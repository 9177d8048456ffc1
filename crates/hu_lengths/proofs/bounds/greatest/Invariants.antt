use Rattle.std.proofs.Common.{◌≡◌, ◌-◌, take, drop, length, map}
use Rattle.hu_totals.specs.View.{dense_pair}
use Rattle.hu_lengths.specs.Bound.{falling, values_after}
use Rattle.hu_lengths.proofs.bounds.greatest.Given as goal

abbrev pub invariant-loop-back : goal.invariant-loop-back
invariant-loop-back l = l.best.items ≡ take l.room (falling (values_after l.last (map dense_pair (drop (length l.cells - l.back) l.cells))))
