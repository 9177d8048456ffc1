use Rattle.std.proofs.Common.{take}
use Rattle.hu_plain.specs.View.{Appends}
use Rattle.hu_plain.specs.PlaceView.{joining, places_of}
use Rattle.hu_plain.proofs.places.push_joining.Given as goal

abbrev pub invariant-loop-place : goal.invariant-loop-place
invariant-loop-place l = Appends l.initial.items.items (joining (places_of (take l.place-index l.places))) l.items.items
