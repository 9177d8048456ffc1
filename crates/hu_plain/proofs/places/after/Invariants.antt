use Rattle.std.proofs.Common.{◌≡◌, ◌≤◌, None, drop}
use Rattle.hu_plain.specs.Place.{after, begun, reach_of}
use Rattle.hu_plain.specs.PlaceView.{places_of}
use Rattle.hu_plain.proofs.Reach.{reach_with}
use Rattle.hu_plain.proofs.PlaceLemmas.{joined}
use Rattle.hu_plain.proofs.places.after.Given as goal

abbrev pub invariant-loop-place : goal.invariant-loop-place
invariant-loop-place l =
    let left = places_of (drop l.place-index l.places) in
    record {
      so_far : joined (places_of l.grown.items) (after l.item.0 l.best left) ≡ begun (after l.item.0 None (places_of l.places));
      within : reach_with l.best left ≤ reach_of (places_of l.places);
    }
