use Rattle.std.proofs.Common.{◌≡◌, ℕ, Bool, List, take, flat_map}
use Rattle.std.specs.List.{AllByRecursion}
use Rattle.hu_chain.specs.Bound.{IsFit}
use Rattle.hu_span.specs.Growing.{Records}
use Rattle.hu_span.specs.Kept.{weighed_of}
use Rattle.hu_span.specs.Mark.{places_of}
use Rattle.hu_span.specs.Trail.{AreHeld, AreSpans}
use Rattle.hu_span.proofs.RowsLemmas.{beside_kept}
use Rattle.hu_span.proofs.gather.held_into.Given as goal

abbrev pub invariant-marks : goal.invariant-marks
invariant-marks l = (keep : ℕ → Bool) → (records : Records) → (p : List (List ℕ)) → AreHeld keep records l.trail p l.held → record {
  so_far : l.grown.marks.items ≡ flat_map (beside_kept keep (weighed_of keep records)) (take l.number l.held.marks.items);
  fit : AllByRecursion IsFit (places_of l.grown.marks.items);
  spans : AreSpans keep records l.trail l.grown.marks.items l.grown.spans.items;
}
