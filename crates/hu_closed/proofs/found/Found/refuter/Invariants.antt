use Rattle.std.proofs.Common.{◌≡◌, true, take}
use Rattle.hu_closed.specs.Found.{stands_in}
use Rattle.hu_closed.proofs.found.Found.refuter.Given as goal

abbrev pub invariant-loop-index : goal.invariant-loop-index
invariant-loop-index l = stands_in (take l.index l.self) l.key l.item.0 ≡ true
