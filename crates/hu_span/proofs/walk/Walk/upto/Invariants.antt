use Rattle.std.proofs.Common.{◌≡◌, length}
use Rattle.hu_span.specs.Mark.{places_of}
use Rattle.hu_span.specs.Trail.{best_before, left_before}
use Rattle.hu_span.proofs.walk.Walk.upto.Given as goal

abbrev pub decreases-places : goal.decreases-places
decreases-places l = length l.left

abbrev pub invariant-places : goal.invariant-places
invariant-places l = record {
  best : best_before l.element l.best (places_of l.left) ≡ best_before l.element l.self.best (places_of l.self.left.now);
  left : left_before l.element (places_of l.left) ≡ left_before l.element (places_of l.self.left.now);
}
