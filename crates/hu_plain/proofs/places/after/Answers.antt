use Rattle.std.proofs.Common.{◌∙◌, None, [], get_or, sym, ap, subst}
use Rattle.hu_kind.specs.Cell.{pairs_of}
use Rattle.hu_kind.specs.Sequence.{better}
use Rattle.hu_plain.specs.declared.places.Place.{Place}
use Rattle.hu_plain.specs.Row.{grown_rows, AreRows}
use Rattle.hu_plain.specs.PlaceView.{pushed, places_of}
use Rattle.hu_plain.proofs.PlaceLemmas.{AreRows-fresh, joined-next, within-next}
use Rattle.hu_plain.proofs.places.after.Goals as goal

-- a place past the end
no_place : Place
no_place = record { end = None; cells = record { ref_ptr = (0, 0); now = [] } }

pub ended-requires : goal.ended-requires
unfolding no_place
ended-requires c = subst AreRows (sym c.fresh.ensures)
    (AreRows-fresh c.args.places.now c.loop-place.place-index no_place c.loop-place.best c.requires.ascending c.requires.sum_fits c.loop-place-test.true
    c.loop-place.invariant.within)

pub loop-place-preserved : goal.loop-place-preserved
unfolding no_place
loop-place-preserved c =
    let places = c.args.places.now in
    let k = c.loop-place.place-index in
    let taken = places_of c.loop-place.grown.items in
    let cells = pairs_of (get_or places k no_place).cells.now in
    let grown = c.in_ok-push_place.ensures ∙ ap (λ place. pushed taken place) c.ended.ensures
    ∙ ap (λ rows. pushed taken (grown_rows c.args.item.0 rows, cells)) c.fresh.ensures in
    let next = c.better-best.ensures ∙ ap (λ b. better c.loop-place.best b) c.earned.ensures in
    record {
      so_far = joined-next places k c.args.item.0 no_place c.loop-place.best c.better-best.result taken (places_of c.push_place.new.places.items) _
          c.loop-place-test.true c.loop-place.invariant.so_far grown next;
      within = within-next places k no_place c.loop-place.best c.better-best.result _ c.loop-place-test.true c.loop-place.invariant.within next;
    }
