use Rattle.std.proofs.Common.{◌≡◌, take}
use Rattle.hu_proof.proofs.order.set_of.Given as goal

abbrev pub invariant-loop-item : goal.invariant-loop-item
invariant-loop-item l = l.set.keys ≡ take l.item-index l.items
