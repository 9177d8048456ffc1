use Rattle.std.proofs.Common.{take}
use Rattle.hu_plain.specs.View.{Appends}
use Rattle.hu_plain.specs.PlaceView.{items_at, places_of}
use Rattle.hu_plain.proofs.places.push_cells.Given as goal

abbrev pub invariant-loop-place : goal.invariant-loop-place
invariant-loop-place l = Appends l.initial.items.items (items_at (places_of (take l.place-index l.places))) l.items.items
