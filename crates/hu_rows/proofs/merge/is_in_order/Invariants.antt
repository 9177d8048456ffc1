use Rattle.std.proofs.Common.{◌≡◌, false}
use Rattle.std.specs.List.{AllAdjacentBelow}
use Rattle.hu_rows.specs.View.{row_below}
use Rattle.hu_rows.proofs.merge.is_in_order.Given as goal

abbrev pub invariant-loop-i : goal.invariant-loop-i
invariant-loop-i l = AllAdjacentBelow (λ a b. row_below b a ≡ false) l.rows l.i
