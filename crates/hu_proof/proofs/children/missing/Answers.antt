use Rattle.std.proofs.Common.{ap, sym, ◌∙◌, ◌||◌, take, drop, get_or, pos, []}
use Rattle.std.specs.List.{list_any}
use Rattle.std.proofs.lemmas.List.{take_all}
use Rattle.hu_kind.specs.Cell.{pairs_of}
use Rattle.hu_kind.specs.Record.{has}
use Rattle.hu_proof.specs.declared.place.Place.{Place}
use Rattle.hu_proof.specs.Judged.{missing}
use Rattle.hu_proof.specs.Places.{PlaceOf, places_of}
use Rattle.hu_proof.proofs.Lowest.{IsLowest-as, any-more, missing-low}
use Rattle.hu_proof.proofs.children.missing.Goals as goal

-- a place past the end
no_place : Place
no_place = record { cells = record { ref_ptr = (0, 0); now = [] }; own = pos 0 }

pub loop-place-preserved : goal.loop-place-preserved
unfolding no_place
loop-place-preserved c =
    let places = c.args.places.now in
    let i = c.loop-place.place-index in
    IsLowest-as c.args.order.now c.args.named.now c.args.from _
    (λ item. list_any (λ (place : PlaceOf). has item place.0) (places_of (take i places)) || has item (pairs_of (get_or places i no_place).cells.now)) _
    (λ item. any-more places i no_place item c.loop-place-test.true)
    (c.lowest-low.ensures.value (λ item. list_any (λ (place : PlaceOf). has item place.0) (places_of (take i places))) c.loop-place.invariant)

pub returns : goal.returns
returns c =
    let all = take_all c.loop-place.place-index c.args.places.now c.loop-place-test.false in
    let low = missing-low c.args.order.now c.args.named.now c.args.from c.loop-place.low (places_of (take c.loop-place.place-index c.args.places.now))
    c.loop-place.invariant in
    c.item_at.ensures ∙ (sym low ∙ ap (λ ps. missing (drop c.args.from c.args.order.now) c.args.named.now (places_of ps)) all)
