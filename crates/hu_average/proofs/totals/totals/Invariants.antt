use Rattle.std.proofs.Common.{take}
use Rattle.hu_average.specs.Tails.{tails_of, AreSums}
use Rattle.hu_average.proofs.totals.totals.Given as goal

abbrev pub invariant-loop-tail : goal.invariant-loop-tail
invariant-loop-tail l = AreSums l.slots.ranks (tails_of (take l.tail-index l.tails)) l.totals.items
