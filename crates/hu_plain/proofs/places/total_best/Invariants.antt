use Rattle.std.proofs.Common.{◌≡◌, [], take}
use Rattle.hu_plain.specs.Growth.{grown_utility}
use Rattle.hu_plain.specs.PlaceView.{all_places}
use Rattle.hu_plain.proofs.places.total_best.Given as goal

abbrev pub invariant-loop-places : goal.invariant-loop-places
invariant-loop-places l = l.sum ≡ grown_utility (all_places (take l.places-index l.rows)) [] []
