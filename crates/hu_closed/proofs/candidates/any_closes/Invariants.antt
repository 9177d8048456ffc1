use Rattle.std.proofs.Common.{◌≡◌, false, ◌&&◌, take}
use Rattle.std.specs.List.{list_any}
use Rattle.hu_totals.specs.Weights.{numbers_of}
use Rattle.hu_closed.specs.Candidates.{is_tried}
use Rattle.hu_closed.specs.Found.{closes_at, IsHolding}
use Rattle.hu_closed.proofs.candidates.any_closes.Given as goal

abbrev pub invariant-loop-item : goal.invariant-loop-item
invariant-loop-item l = record {
  none : list_any (λ item. is_tried l.tried item && closes_at l.found l.key item) (numbers_of (take l.item-index l.items)) ≡ false;
  witness : IsHolding l.found l.key (numbers_of l.witness);
}
