use Rattle.std.proofs.Common.{length}
use Rattle.hu_span.specs.Kept.{weighed_of}
use Rattle.hu_span.specs.Trail.{OfHeld}
use Rattle.hu_span.proofs.ScanLemmas.{AreHeard}
use Rattle.hu_span.proofs.scan.scanned_after.Given as goal

abbrev pub decreases-rows : goal.decreases-rows
decreases-rows l = length l.left

abbrev pub invariant-rows : goal.invariant-rows
invariant-rows l = OfHeld l.trail l.held (λ keep records p. AreHeard (weighed_of keep records) keep p l.reaches l.links l.tells.items l.left)
