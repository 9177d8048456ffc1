use Rattle.std.proofs.Common.{◌≡◌, ◌++◌, filter, take}
use Rattle.hu_span.specs.Kept.{keeps}
use Rattle.hu_span.specs.Trail.{is_held, values_in}
use Rattle.hu_span.proofs.thin.push_kept.Given as goal

abbrev pub invariant-cells : goal.invariant-cells
invariant-cells l = record {
  so_far : l.thin.items ≡ l.initial.thin.items ++ filter (is_held (keeps l.kept)) (take l.cell-index l.cells);
  sum : l.sum ≡ values_in (filter (is_held (keeps l.kept)) (take l.cell-index l.cells));
}
