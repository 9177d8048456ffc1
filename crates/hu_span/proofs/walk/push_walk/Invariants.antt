use Rattle.std.proofs.Common.{◌≡◌, ◌≤◌, ◌++◌, length, reverse}
use Rattle.std.specs.List.{AllByRecursion}
use Rattle.hu_chain.specs.Bound.{IsFit}
use Rattle.hu_span.specs.Mark.{places_of}
use Rattle.hu_span.specs.Trail.{trail_marks, trail_spans}
use Rattle.hu_span.proofs.walk.push_walk.Given as goal

abbrev pub decreases-cells : goal.decreases-cells
decreases-cells l = length l.left

abbrev pub invariant-cells : goal.invariant-cells
invariant-cells l = record {
  few : length l.left ≤ length l.cells;
  fit : AllByRecursion IsFit (places_of (trail_marks l.row l.walk.best l.walk.ahead (places_of l.walk.left.now) (reverse l.left)));
  marks : l.held.marks.items ++ trail_marks l.row l.walk.best l.walk.ahead (places_of l.walk.left.now) (reverse l.left)
      ≡ l.initial.held.marks.items ++ trail_marks l.row l.initial.walk.best l.initial.walk.ahead (places_of l.initial.walk.left.now) (reverse l.cells);
  spans : l.held.spans.items ++ trail_spans l.low 0 (reverse l.left) ≡ l.initial.held.spans.items ++ trail_spans l.low 0 (reverse l.cells);
}
