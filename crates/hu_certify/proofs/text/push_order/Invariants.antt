use Rattle.std.proofs.Common.{◌≡◌, ◌++◌, take}
use Rattle.hu_totals.specs.Weights.{numbers_of}
use Rattle.hu_certify.specs.Text.{order_line}
use Rattle.hu_certify.proofs.text.push_order.Given as goal

abbrev pub invariant-loop-item : goal.invariant-loop-item
invariant-loop-item l = l.text.items ≡ l.fn.text.items ++ order_line (numbers_of (take l.item-index l.items))
