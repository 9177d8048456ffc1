use Rattle.std.proofs.Common.{◌≡◌, ◌≤◌, ◌++◌, length, reverse, sum_by}
use Rattle.hu_span.specs.Trail.{cells_from}
use Rattle.hu_span.proofs.trail.push_record.Given as goal

abbrev pub decreases-elements : goal.decreases-elements
decreases-elements l = length l.left

abbrev pub invariant-elements : goal.invariant-elements
invariant-elements l = record {
  few : length l.left ≤ length l.elements;
  cells : sum_by length l.left ≤ 4096;
  so_far : l.trail.items ++ reverse (cells_from 0 l.left) ≡ l.initial.trail.items ++ reverse (cells_from 0 l.elements);
}
