use Rattle.std.proofs.Common.{pos, [], ap, arith}
use Rattle.std.proofs.lemmas.Int.{ints}
use Rattle.hu_proof.specs.declared.place.Place.{Place}
use Rattle.hu_proof.specs.Places.{earned}
use Rattle.hu_proof.proofs.PlaceLemmas.{at-place, places-drop, sizes-drop}
use Rattle.hu_proof.proofs.place.earned.Goals as goal

-- a place past the end
abbrev no_place : Place
no_place = record { cells = record { ref_ptr = (0, 0); now = [] }; own = pos 0 }

pub overflow_add-sum : goal.overflow_add-sum
overflow_add-sum c =
    let places = c.args.places.now in
    let i = c.loop-place.place-index in
    let at = at-place c.requires.0 places i no_place c.requires.1 c.loop-place-test.true in
    let sizes = sizes-drop places i no_place c.loop-place-test.true in
    omega (arith, ints, at.roomy, sizes, c.loop-place.invariant.fits)

pub loop-place-preserved : goal.loop-place-preserved
loop-place-preserved c =
    let places = c.args.places.now in
    let i = c.loop-place.place-index in
    let at = at-place c.requires.0 places i no_place c.requires.1 c.loop-place-test.true in
    let sizes = sizes-drop places i no_place c.loop-place-test.true in
    let sums = ap earned (places-drop places i no_place c.loop-place-test.true) in
    record {
      sum = omega (arith, ints, at.roomy, sizes, sums, c.loop-place.invariant.sum, c.loop-place.invariant.fits);
      fits = omega (arith, ints, at.roomy, sizes, c.loop-place.invariant.fits);
    }
