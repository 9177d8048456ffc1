use Rattle.std.proofs.Common.{◌≡◌, take}
use Rattle.hu_raise.specs.StartFloor.{earned}
use Rattle.hu_raise.proofs.start.earned.Given as goal

abbrev pub invariant-loop-index : goal.invariant-loop-index
invariant-loop-index l = l.utilities.items ≡ earned (take l.index l.totals)
