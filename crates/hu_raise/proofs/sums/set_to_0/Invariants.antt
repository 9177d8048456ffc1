use Rattle.std.proofs.Common.{◌≡◌, ℕ, nat_eq, cond, pos, take}
use Rattle.std.specs.List.{list_any}
use Rattle.hu_raise.specs.Sums.{sum_at}
use Rattle.hu_raise.proofs.sums.set_to_0.Given as goal

abbrev pub invariant-loop-rank : goal.invariant-loop-rank
invariant-loop-rank l = (rank : ℕ) → sum_at l.sums rank ≡ cond (list_any (nat_eq rank) (take l.rank-index l.ranks)) (pos 0) (sum_at l.initial.sums rank)
