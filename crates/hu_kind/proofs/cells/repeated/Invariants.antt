use Rattle.std.proofs.Common.{◌<◌}
use Rattle.std.specs.List.{AllAdjacentBelow}
use Rattle.hu_kind.proofs.cells.repeated.Given as goal

abbrev pub invariant-loop-i : goal.invariant-loop-i
invariant-loop-i l = AllAdjacentBelow (λ a b. a.item.0 < b.item.0) l.cells l.i
