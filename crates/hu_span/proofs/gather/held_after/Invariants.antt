use Rattle.std.proofs.Common.{length}
use Rattle.hu_span.specs.Kept.{weighed_of}
use Rattle.hu_span.specs.Trail.{AreSpans, OfHeld}
use Rattle.hu_span.proofs.RowsLemmas.{AreRowsLeft}
use Rattle.hu_span.proofs.gather.held_after.Given as goal

abbrev pub decreases-rows : goal.decreases-rows
decreases-rows l = length l.left

abbrev pub invariant-rows : goal.invariant-rows
invariant-rows l = OfHeld l.trail l.held (λ keep records p.
    AreRowsLeft (weighed_of keep records) keep p l.left l.grown.marks.items × AreSpans keep records l.trail l.grown.marks.items l.grown.spans.items)
