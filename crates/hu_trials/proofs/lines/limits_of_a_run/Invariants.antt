use Rattle.std.proofs.Common.{◌≡◌, false}
use Rattle.hu_trials.proofs.lines.limits_of_a_run.Given as goal

abbrev pub invariant-loop-number : goal.invariant-loop-number
invariant-loop-number g l = l.lines.ended ≡ false
