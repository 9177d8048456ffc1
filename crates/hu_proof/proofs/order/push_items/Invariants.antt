use Rattle.std.proofs.Common.{◌≡◌, ◌++◌, take}
use Rattle.hu_proof.specs.Words.{numbers_of}
use Rattle.hu_proof.proofs.order.push_items.Given as goal

abbrev pub invariant-loop-item : goal.invariant-loop-item
invariant-loop-item l = l.numbers.items ≡ l.fn.numbers.items ++ numbers_of (take l.item-index l.items)
