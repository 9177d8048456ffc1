use Rattle.std.proofs.Common.{◌≡◌, ◌≤◌, ◌++◌, [], length, reverse}
use Rattle.std.specs.List.{AllByRecursion}
use Rattle.hu_chain.specs.Bound.{IsFit}
use Rattle.hu_span.specs.Mark.{places_of}
use Rattle.hu_span.specs.Trail.{behind_element, in_element, trail_beside, trail_marks, trail_spans}
use Rattle.hu_span.proofs.walk.push_beside.Given as goal

abbrev pub decreases-cells : goal.decreases-cells
decreases-cells l = length l.left

abbrev pub invariant-cells : goal.invariant-cells
invariant-cells l = record {
  few : length l.left ≤ length l.cells;
  fit : AllByRecursion IsFit (places_of (trail_marks l.mark.row l.mark.place.best l.ahead [] (in_element l.mark.place.element (reverse l.left))));
  marks : l.held.marks.items ++ trail_marks l.mark.row l.mark.place.best l.ahead [] (in_element l.mark.place.element (reverse l.left))
      ≡ l.initial.held.marks.items ++ trail_beside l.mark.row l.mark.place (reverse l.cells);
  spans : l.held.spans.items ++ trail_spans l.low (length (behind_element l.mark.place.element (reverse l.left)))
      (in_element l.mark.place.element (reverse l.left))
      ≡ l.initial.held.spans.items ++ trail_spans l.low (length (behind_element l.mark.place.element (reverse l.cells)))
      (in_element l.mark.place.element (reverse l.cells));
}
