use Rattle.std.proofs.Common.{◌≡◌, ℕ, map, take, fold, length}
use Rattle.hu_raise.specs.Rests.{after_first, handed, later_gain}
use Rattle.hu_raise.specs.Sums.{sum_at}
use Rattle.hu_raise.specs.View.{rests_of, waiting_in}
use Rattle.hu_raise.proofs.rests.hand_on.Given as goal

abbrev pub invariant-loop-rest : goal.invariant-loop-rest
invariant-loop-rest l = record {
  long : length l.sums ≡ length l.initial.sums;
  summed : (rank : ℕ) → sum_at l.sums rank ≡ later_gain (take l.rest-index (rests_of l.rests)) rank;
  waits : waiting_in l.waiting.items ≡ fold handed (waiting_in l.initial.waiting.items) (map after_first (take l.rest-index (rests_of l.rests)));
}
