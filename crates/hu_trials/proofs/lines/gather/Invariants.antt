use Rattle.std.proofs.Common.{◌≡◌, false, None}
use Rattle.hu_trials.proofs.lines.gather.Given as goal

abbrev pub invariant-loop-piece : goal.invariant-loop-piece
invariant-loop-piece l = (l.lines.ended ≡ false) × (l.lines.refused ≡ None)
