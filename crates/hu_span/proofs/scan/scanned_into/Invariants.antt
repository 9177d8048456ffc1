use Rattle.std.proofs.Common.{ℕ, Bool, List, take, flat_map}
use Rattle.hu_span.specs.Child.{AreTold}
use Rattle.hu_span.specs.Growing.{Records}
use Rattle.hu_span.specs.Kept.{weighed_of}
use Rattle.hu_span.specs.Trail.{AreHeld}
use Rattle.hu_span.proofs.RowsLemmas.{beside_kept}
use Rattle.hu_span.proofs.scan.scanned_into.Given as goal

abbrev pub invariant-marks : goal.invariant-marks
invariant-marks l = (keep : ℕ → Bool) → (records : Records) → (p : List (List ℕ)) → AreHeld keep records l.trail p l.held
    → AreTold l.reaches l.links l.tells.items (flat_map (beside_kept keep (weighed_of keep records)) (take l.number l.held.marks.items))
