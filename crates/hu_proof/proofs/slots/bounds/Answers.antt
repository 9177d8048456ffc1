use Rattle.std.proofs.Common.{◌≡◌, ◌+◌, ◌+ℤ◌, ◌<◌, ℕ, pos, [], get_or, drop, length, unsigned_abs, ap, ◌∙◌, arith}
use Rattle.std.proofs.lemmas.Int.{ints}
use Rattle.std.proofs.lemmas.List.{length-replicate, get_or-replicate}
use Rattle.hu_proof.specs.declared.place.Place.{Place}
use Rattle.hu_proof.specs.Places.{place_of, places_of}
use Rattle.hu_proof.specs.Slots.{bound_at, share_at, shares_at}
use Rattle.hu_proof.proofs.PlaceLemmas.{at-place, places-drop, sizes-drop}
use Rattle.hu_proof.proofs.SlotLemmas.{share-within}
use Rattle.hu_proof.proofs.slots.bounds.Goals as goal

-- a place past the end
abbrev no_place : Place
no_place = record { cells = record { ref_ptr = (0, 0); now = [] }; own = pos 0 }

pub loop-place-init : goal.loop-place-init
loop-place-init c =
    let n = c.len.result in
    let all = c.in_ok-bounds.ensures.items_if_clones_equal (λ value same. same) in
    let len : length c.in_ok-bounds.bounds.items ≡ length c.args.named.now = ap length all ∙ length-replicate n (pos 0) ∙ c.len.ensures in
    let none : (slot : ℕ) → slot < length c.args.named.now → bound_at c.in_ok-bounds.bounds.items slot ≡ pos 0 =
    λ slot low. ap (λ bounds. bound_at bounds slot) all ∙ get_or-replicate n slot (pos 0) (pos 0) (omega (arith, low, c.len.ensures)) in
    record {
      len = len;
      value = λ slot low. omega (arith, ints, none slot low);
      fits = λ slot low. omega (arith, ap unsigned_abs (none slot low), c.requires.room.sum);
    }

pub add_place-requires-clause-ascending : goal.add_place-requires-clause-ascending
add_place-requires-clause-ascending c =
    (at-place c.args.named.now c.args.places.now c.loop-place.place-index no_place c.requires.room c.loop-place-test.true).rises

pub add_place-requires-clause-roomy : goal.add_place-requires-clause-roomy
add_place-requires-clause-roomy c =
    (at-place c.args.named.now c.args.places.now c.loop-place.place-index no_place c.requires.room c.loop-place-test.true).roomy

pub add_place-requires-clause-small : goal.add_place-requires-clause-small
add_place-requires-clause-small c =
    (at-place c.args.named.now c.args.places.now c.loop-place.place-index no_place c.requires.room c.loop-place-test.true).fits

pub add_place-requires-clause-fits : goal.add_place-requires-clause-fits
add_place-requires-clause-fits c slot low =
    let places = c.args.places.now in
    let i = c.loop-place.place-index in
    let sizes = sizes-drop places i no_place c.loop-place-test.true in
    omega (arith, sizes, c.loop-place.invariant.fits slot low)

pub loop-place-preserved : goal.loop-place-preserved
loop-place-preserved c =
    let named = c.args.named.now in
    let places = c.args.places.now in
    let i = c.loop-place.place-index in
    let at = at-place named places i no_place c.requires.room c.loop-place-test.true in
    let place = place_of (get_or places i no_place) in
    let sizes = sizes-drop places i no_place c.loop-place-test.true in
    let more : (slot : ℕ) → shares_at named (places_of (drop i places)) slot
    ≡ share_at named place slot +ℤ shares_at named (places_of (drop (i + 1) places)) slot =
    λ slot. ap (λ ps. shares_at named ps slot) (places-drop places i no_place c.loop-place-test.true) in
    record {
      len = c.in_ok-add_place.ensures.len;
      value = λ slot low. omega (arith, ints, more slot, c.in_ok-add_place.ensures.value slot low, c.loop-place.invariant.value slot low);
      fits = λ slot low. omega (
        arith,
        ints,
        sizes,
        c.in_ok-add_place.ensures.value slot low,
        share-within named place slot c.requires.apart at.roomy low,
        c.loop-place.invariant.fits slot low,
      );
    }
