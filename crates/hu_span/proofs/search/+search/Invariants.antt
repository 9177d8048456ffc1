use Rattle.std.proofs.Common.{◌≡◌, ◌+◌, ◌-◌, ◌*◌, length}
use Rattle.std.specs.List.{Contains}
use Rattle.hu_span.specs.declared.child.Branch.{Branch}
use Rattle.hu_span.specs.Kept.{keeps, weighed_of}
use Rattle.hu_span.specs.Search.{IsSoFar}
use Rattle.hu_span.specs.Step.{pattern_of}
use Rattle.hu_span.specs.Trail.{AreSpans}
use Rattle.hu_span.proofs.search.+search.Given as goal

-- a search of one more step comes after an entrance to it
abbrev pub decreases-deepen : goal.decreases-deepen
decreases-deepen g l = 2 * (4097 - length l.steps.now.items) + 1

abbrev pub decreases-enter : goal.decreases-enter
decreases-enter g l = 2 * (4097 - length l.steps.now.items)

abbrev pub invariant-deepen-branches : goal.invariant-deepen-branches
invariant-deepen-branches g l = record {
  steps : l.steps.items ≡ l.fn.steps.items;
  rows : length l.reaches ≡ length l.level.records.now;
  spans : (branch : Branch) → Contains l.branch-items branch
      → AreSpans (keeps l.level.kept.now) l.level.records.now l.level.trail.now branch.held.marks.items branch.held.spans.items;
  made : IsSoFar (g.C.Collect.state l.fn.collect) (g.C.Collect.state l.collect) (weighed_of (keeps l.level.kept.now) l.level.records.now)
      (keeps l.level.kept.now) (pattern_of l.fn.steps.items) l.branch-items l.branch-index;
}
