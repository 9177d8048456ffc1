use Rattle.std.proofs.Common.{◌≡◌}
use Rattle.hu_average.proofs.best.Best.into_entries.Given as goal

abbrev pub invariant-loop-entry : goal.invariant-loop-entry
invariant-loop-entry l = l.list.items ≡ l.yielded
