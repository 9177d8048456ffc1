use Rattle.std.proofs.Common.{pos, [], ◌∷◌, ◌++◌, ap, sym, arith, ◌∙◌, append-nil, get_or, take}
use Rattle.std.proofs.lemmas.Int.{ints}
use Rattle.std.proofs.lemmas.List.{map-append}
use Rattle.hu_kind.specs.Cell.{pairs_of}
use Rattle.hu_proof.specs.declared.place.Place.{Place}
use Rattle.hu_proof.specs.Places.{place_of, places_of, narrowed}
use Rattle.hu_proof.proofs.PlaceLemmas.{at-place, value_of-later_size, narrowed-more}
use Rattle.hu_proof.proofs.place.narrowed.Goals as goal
use Rattle.hu_proof.proofs.place.narrowed.Goals.{in-Some+in_ok-push, in_default}

-- a place past the end
no_place : Place
no_place = record { cells = record { ref_ptr = (0, 0); now = [] }; own = pos 0 }

pub grown-requires-clause-room : goal.grown-requires-clause-room
unfolding no_place
grown-requires-clause-room c =
    let places = c.args.places.now in
    let i = c.loop-place.place-index in
    let at = at-place c.requires.0 places i no_place c.requires.1 c.loop-place-test.true in
    let value = value_of-later_size c.args.item.0 c.requires.0 (pairs_of (get_or places i no_place).cells.now) c.requires.2 in
    omega (arith, ints, at.roomy, at.fits, value)

pub grown-requires-clause-ascending : goal.grown-requires-clause-ascending
unfolding no_place
grown-requires-clause-ascending c =
    let at = at-place c.requires.0 c.args.places.now c.loop-place.place-index no_place c.requires.1 c.loop-place-test.true in
    at.rises

pub loop-place-preserved : goal.loop-place-preserved
unfolding no_place
loop-place-preserved c =
    let places = c.args.places.now in
    let i = c.loop-place.place-index in
    let more = narrowed-more c.args.item.0 places i no_place c.loop-place-test.true in
    let before = narrowed c.args.item.0 (places_of (take i places)) in
    elim c.match-grown.branch [
      | in-Some+in_ok-push w ↦ ap (λ v. places_of v.items) w.narrow-is ∙ ap places_of w.in_ok-push.ensures.items
          ∙ map-append place_of c.loop-place.narrow.items (w.in-Some.one ∷ [])
          ∙ ap (λ xs. xs ++ place_of w.in-Some.one ∷ []) c.loop-place.invariant ∙ (ap (λ ys. before ++ ys) w.in-Some.ensures ∙ sym more)
      | in_default w ↦ ap (λ v. places_of v.items) w.narrow-is ∙ c.loop-place.invariant
          ∙ (sym (append-nil before) ∙ ap (λ ys. before ++ ys) w.in_default.ensures ∙ sym more)
    ]
