use Rattle.std.proofs.Common.{None, []}
use Rattle.hu_plain.specs.declared.places.Place.{Place}
use Rattle.hu_plain.proofs.PlaceLemmas.{AreRows-at}
use Rattle.hu_plain.proofs.places.into.Goals as goal

-- a place past the end
no_place : Place
no_place = record { end = None; cells = record { ref_ptr = (0, 0); now = [] } }

pub ended-requires : goal.ended-requires
unfolding no_place
ended-requires c = AreRows-at c.args.places.now c.loop-place.place-index no_place c.requires.ascending c.requires.sum_fits c.loop-place-test.true
