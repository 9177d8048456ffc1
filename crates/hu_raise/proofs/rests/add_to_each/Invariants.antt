use Rattle.std.proofs.Common.{◌≡◌, ℕ, ◌+ℤ◌, take, length}
use Rattle.hu_raise.specs.Sums.{gain_at, sum_at}
use Rattle.hu_raise.proofs.rests.add_to_each.Given as goal

abbrev pub invariant-loop-rank : goal.invariant-loop-rank
invariant-loop-rank l = record {
  long : length l.sums ≡ length l.initial.sums;
  added : (rank : ℕ) → sum_at l.sums rank ≡ sum_at l.initial.sums rank +ℤ gain_at (take l.rank-index l.ranks) l.gain rank;
}
