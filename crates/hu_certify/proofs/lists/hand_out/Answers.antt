use Rattle.std.proofs.Common.{◌<◌, ◌++◌, pos, [], length, take, get_or, sym, ap, ◌∙◌, arith, append_assoc, to_z, of_z}
use Rattle.std.specs.Int.{w128}
use Rattle.std.specs.List.{AllByRecursion}
use Rattle.hu_kind.specs.Order.{Ascend}
use Rattle.hu_kind.specs.Record.{items_in}
use Rattle.hu_certify.specs.declared.place.Place.{Place}
use Rattle.hu_certify.specs.Slots.{kept, list_at}
use Rattle.hu_certify.specs.Spots.{grown, narrowed, spot_of, spots_of, SpotOf}
use Rattle.hu_certify.proofs.ListLemmas.{kept-append}
use Rattle.hu_certify.proofs.SlotLemmas.{spot-at}
use Rattle.hu_certify.proofs.SpotLemmas.{narrowed-more, size-within}
use Rattle.hu_certify.proofs.lists.hand_out.Goals as goal

-- a place past the end
abbrev no_place : Place
no_place = record { rest = record { ref_ptr = (0, 0); now = [] }; own = pos 0 }

pub hand_place-requires-clause-fits : goal.hand_place-requires-clause-fits
hand_place-requires-clause-fits c =
    omega (arith, size-within c.args.places.now c.loop-place.place-index no_place c.loop-place-test.true, c.requires.room)

pub hand_place-requires-clause-ranks : goal.hand_place-requires-clause-ranks
hand_place-requires-clause-ranks c =
    spot-at (λ (spot : SpotOf). AllByRecursion (λ cell. cell.0 < length c.args.slots.now) spot.0) c.args.places.now c.loop-place.place-index no_place
    c.requires.ranks c.loop-place-test.true

pub hand_place-requires-clause-ascending : goal.hand_place-requires-clause-ascending
hand_place-requires-clause-ascending c =
    spot-at (λ (spot : SpotOf). Ascend (items_in spot.0)) c.args.places.now c.loop-place.place-index no_place c.requires.ascending c.loop-place-test.true

pub loop-place-preserved : goal.loop-place-preserved
loop-place-preserved c =
    let places = c.args.places.now in
    let slots = c.args.slots.now in
    let least = to_z w128 (of_z w128 c.args.least) in
    let i = c.loop-place.place-index in
    let one = spot_of (get_or places i no_place) in
    record {
      len = c.in_ok-hand_place.ensures.length ∙ c.loop-place.invariant.len;
      lists = λ z.
          let old = list_at c.args.lists.now.items z in
          let before = narrowed z (spots_of (take i places)) in
          c.in_ok-hand_place.ensures.lists z
          ∙ ap (λ spots. spots ++ kept least slots z (grown z one)) (c.loop-place.invariant.lists z)
          ∙ append_assoc old (kept least slots z before) (kept least slots z (grown z one))
          ∙ ap (λ spots. old ++ spots) (sym (kept-append least slots z before (grown z one)))
          ∙ ap (λ spots. old ++ kept least slots z spots) (sym (narrowed-more z places i no_place c.loop-place-test.true));
    }
