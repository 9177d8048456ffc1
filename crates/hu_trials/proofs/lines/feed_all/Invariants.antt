use Rattle.std.proofs.Common.{◌≡◌, false, None, length}
use Rattle.hu_trials.proofs.lines.feed_all.Given as goal

abbrev pub invariant-loop-rest : goal.invariant-loop-rest
invariant-loop-rest l = (l.lines.ended ≡ false) × (l.lines.refused ≡ None)

abbrev pub decreases-loop-rest : goal.decreases-loop-rest
decreases-loop-rest l = length l.rest
