use Rattle.std.proofs.Common.{◌≡◌, ◌≤◌, ◌++◌, length, reverse}
use Rattle.hu_kind.specs.Cell.{pairs_of}
use Rattle.hu_span.specs.Trail.{numbered}
use Rattle.hu_span.proofs.trail.push_element.Given as goal

abbrev pub decreases-cells : goal.decreases-cells
decreases-cells l = length l.left

abbrev pub invariant-cells : goal.invariant-cells
invariant-cells l = record {
  few : length l.left ≤ length l.cells;
  so_far : l.trail.items ++ reverse (numbered l.element 0 (pairs_of l.left))
      ≡ l.initial.trail.items ++ reverse (numbered l.element 0 (pairs_of l.cells));
}
