use Rattle.std.proofs.Common.{◌≡◌, map, pos, take}
use Rattle.hu_proof.proofs.walk.key_of.Given as goal

abbrev pub invariant-loop-number : goal.invariant-loop-number
invariant-loop-number l = l.key ≡ map pos (take l.number-index l.number-items)
