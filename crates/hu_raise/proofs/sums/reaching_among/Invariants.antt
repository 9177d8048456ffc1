use Rattle.std.proofs.Common.{◌≡◌, filter, int_le, take}
use Rattle.hu_raise.specs.Sums.{sum_at}
use Rattle.hu_raise.proofs.sums.reaching_among.Given as goal

abbrev pub invariant-loop-rank : goal.invariant-loop-rank
invariant-loop-rank l = l.reaching.items ≡ filter (λ rank. int_le l.floor (sum_at l.sums rank)) (take l.rank-index l.ranks)
