use Rattle.std.proofs.Common.{◌≡◌, ℕ, Bool, List, true, length}
use Rattle.hu_span.specs.Growing.{Records}
use Rattle.hu_span.specs.Kept.{keeps}
use Rattle.hu_span.specs.Trail.{AreHeld}
use Rattle.hu_span.proofs.ThinLemmas.{AreThin}
use Rattle.hu_span.proofs.thin.thinned.Given as goal

abbrev pub decreases-marks : goal.decreases-marks
decreases-marks l = length l.left

abbrev pub invariant-marks : goal.invariant-marks
invariant-marks l = (keep : ℕ → Bool) → (records : Records) → (p : List (List ℕ)) → AreHeld keep records l.trail p l.held
    → ((item : ℕ) → keeps l.kept item ≡ true → keep item ≡ true)
    → AreThin records (keeps l.kept) l.trail l.held.marks.items l.left l.thin.items l.run l.back.marks.items l.back.spans.items
