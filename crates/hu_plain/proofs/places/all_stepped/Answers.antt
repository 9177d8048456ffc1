use Rattle.std.proofs.Common.{◌∙◌, ap, subst, sym, arith}
use Rattle.std.specs.Global.{Vec}
use Rattle.std.proofs.lemmas.List.{take_all}
use Rattle.hu_plain.specs.declared.places.Place.{Place}
use Rattle.hu_plain.specs.Place.{all_stepped, reach_of, ArePlaces, AreAscending}
use Rattle.hu_plain.specs.PlaceView.{all_places, places_of}
use Rattle.hu_plain.proofs.PlaceLemmas.{each-at, places-within, ArePlaces-stepped}
use Rattle.hu_plain.proofs.places.all_stepped.Goals as goal

pub stepped-requires-clause-ascending : goal.stepped-requires-clause-ascending
stepped-requires-clause-ascending c =
    let is = c.deref.ensures.value ∙ ap (λ v. v.items) c.places-item.is in
    subst (λ places. AreAscending (places_of places)) (sym is)
    (each-at (λ (v : Vec Place). places_of v.items) AreAscending c.args.rows.now c.loop-places.places-index _ c.requires.ascending c.loop-places-test.true)

pub stepped-requires-clause-sum_fits : goal.stepped-requires-clause-sum_fits
stepped-requires-clause-sum_fits c =
    let is = ap (λ places. reach_of (places_of places)) (c.deref.ensures.value ∙ ap (λ v. v.items) c.places-item.is) in
    omega (arith, is, places-within c.args.rows.now c.loop-places.places-index c.places-item.result c.loop-places-test.true, c.requires.sum_fits)

pub returns-clause-rules : goal.returns-clause-rules
returns-clause-rules c =
    let rows = c.args.rows.now in
    let step = c.args.step in
    let all = take_all c.loop-places.places-index rows c.loop-places-test.false in
    let same = c.loop-places.invariant ∙ ap (λ rs. all_stepped step (all_places rs)) all in
    subst ArePlaces (sym same) (ArePlaces-stepped step (all_places rows) c.requires)
