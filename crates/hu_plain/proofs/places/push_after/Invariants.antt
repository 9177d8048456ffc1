use Rattle.std.proofs.Common.{◌≡◌, ◌++◌, map, take}
use Rattle.hu_plain.specs.PlaceView.{step_after}
use Rattle.hu_plain.proofs.places.push_after.Given as goal

abbrev pub invariant-loop-item : goal.invariant-loop-item
invariant-loop-item l = l.steps.items ≡ l.initial.steps.items ++ map step_after (take l.item-index l.items)
