use Rattle.std.proofs.Common.{◌≡◌, ◌++◌, map, take}
use Rattle.hu_plain.specs.PlaceView.{step_into}
use Rattle.hu_plain.proofs.places.push_into.Given as goal

abbrev pub invariant-loop-item : goal.invariant-loop-item
invariant-loop-item l = l.steps.items ≡ l.initial.steps.items ++ map step_into (take l.item-index l.items)
