use Rattle.std.proofs.Common.{◌≡◌, ◌≤◌, ◌-ℤ◌, [], length, reverse}
use Rattle.std.specs.List.{AllByRecursion}
use Rattle.hu_chain.specs.Bound.{IsFit}
use Rattle.hu_span.specs.Mark.{places_of}
use Rattle.hu_span.specs.Trail.{behind_element, in_element, trail_marks, values_in}
use Rattle.hu_span.proofs.walk.behind.Given as goal

abbrev pub decreases-cells : goal.decreases-cells
decreases-cells l = length l.left

abbrev pub invariant-cells : goal.invariant-cells
invariant-cells l = record {
  few : length l.left ≤ length l.cells;
  fit : AllByRecursion IsFit (places_of (trail_marks l.mark.row l.mark.place.best l.ahead [] (in_element l.mark.place.element (reverse l.left))));
  behind : behind_element l.mark.place.element (reverse l.left) ≡ behind_element l.mark.place.element (reverse l.cells);
  ahead : (l.ahead -ℤ values_in (in_element l.mark.place.element (reverse l.left)))
      ≡ l.mark.place.rest -ℤ values_in (in_element l.mark.place.element (reverse l.cells));
}
