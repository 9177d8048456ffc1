use Rattle.std.proofs.Common.{◌≡◌, negsuc, drop}
use Rattle.hu_closed.specs.Keys.{ascends_above}
use Rattle.hu_closed.proofs.keys.is_set_key.Given as goal

abbrev pub invariant-loop-number : goal.invariant-loop-number
invariant-loop-number l = ascends_above (negsuc 0) l.key ≡ ascends_above l.below (drop l.number-index l.key)
