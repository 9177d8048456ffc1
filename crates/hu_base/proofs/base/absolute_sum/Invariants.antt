use Rattle.std.proofs.Common.{◌≡◌, pos, take, sum_by}
use Rattle.hu_base.proofs.base.absolute_sum.Given as goal

abbrev pub invariant-loop-one : goal.invariant-loop-one
invariant-loop-one g l = l.sum ≡ pos (sum_by g.R.Absolute.absolute (take l.one-index l.records))
