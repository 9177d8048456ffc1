use Rattle.std.proofs.Common.{rules, unsigned_abs, ◌<◌, ℕ, ℤ, pos, [], length, get_or, subst, sym, ap, ◌∙◌, arith}
use Rattle.std.specs.List.{AllByRecursion}
use Rattle.std.proofs.lemmas.List.{take_all}
use Rattle.hu_kind.specs.Order.{Ascend}
use Rattle.hu_kind.specs.Record.{items_in}
use Rattle.hu_totals.specs.Cells.{among}
use Rattle.hu_certify.specs.declared.place.Place.{Place}
use Rattle.hu_certify.specs.declared.slots.Slot.{Slot}
use Rattle.hu_certify.specs.Slots.{slot_over, with_spot}
use Rattle.hu_certify.specs.Spots.{ranks_in, spot_of, spots_of, SpotOf}
use Rattle.hu_certify.proofs.SlotLemmas.{empty-slot, ranking-same, slot_over-fits, slot_over-more, spot-at}
use Rattle.hu_certify.proofs.slots.fill.Goals as goal

-- a place past the end
abbrev no_place : Place
no_place = record { rest = record { ref_ptr = (0, 0); now = [] }; own = pos 0 }

pub loop-place-init : goal.loop-place-init
loop-place-init c = record {
  len = search rules;
  slots = λ z. empty-slot c.args.slots.now.items z c.requires.empty;
  met = λ z. ap (λ (s : Slot). s.met) (empty-slot c.args.slots.now.items z c.requires.empty)
      ∙ sym (ap (among z) c.new-ranks.ensures.items);
}

pub add_place-requires-clause-ranks : goal.add_place-requires-clause-ranks
add_place-requires-clause-ranks c =
    subst (λ n. AllByRecursion (λ (cell : ℕ × ℤ). cell.0 < n) (spot_of (get_or c.args.places.now c.loop-place.place-index no_place)).0)
    (sym c.loop-place.invariant.len)
    (spot-at (λ (spot : SpotOf). AllByRecursion (λ cell. cell.0 < length c.args.slots.now.items) spot.0) c.args.places.now c.loop-place.place-index no_place
    c.requires.ranks c.loop-place-test.true)

pub add_place-requires-clause-ascending : goal.add_place-requires-clause-ascending
add_place-requires-clause-ascending c =
    spot-at (λ (spot : SpotOf). Ascend (items_in spot.0)) c.args.places.now c.loop-place.place-index no_place c.requires.ascending c.loop-place-test.true

pub add_place-requires-clause-fits : goal.add_place-requires-clause-fits
add_place-requires-clause-fits c z =
    let fits = slot_over-fits c.args.places.now c.loop-place.place-index no_place c.loop-place-test.true c.requires.room z in
    omega (arith, fits, ap (λ (s : Slot). unsigned_abs s.bound) (c.loop-place.invariant.slots z))

pub loop-place-preserved : goal.loop-place-preserved
loop-place-preserved c =
    let places = c.args.places.now in
    let i = c.loop-place.place-index in
    let ensured = c.in_ok-add_place.ensures in
    record {
      len = ensured.length ∙ c.loop-place.invariant.len;
      slots = λ z. ensured.slots z
          ∙ ap (with_spot z (spot_of (get_or places i no_place))) (c.loop-place.invariant.slots z)
          ∙ sym (slot_over-more places i no_place c.loop-place-test.true z);
      met = ensured.met;
    }

pub returns-clause-ranks : goal.returns-clause-ranks
returns-clause-ranks c =
    let places = c.args.places.now in
    let whole = take_all c.loop-place.place-index places c.loop-place-test.false in
    c.put_in_order.ensures
    ∙ ranking-same c.loop-place.ranks.items (ranks_in (spots_of places))
    (λ z. sym (c.loop-place.invariant.met z) ∙ ap (λ (s : Slot). s.met) (c.loop-place.invariant.slots z)
    ∙ ap (λ ps. among z (ranks_in (spots_of ps))) whole)

pub returns-clause-slots : goal.returns-clause-slots
returns-clause-slots c z =
    c.loop-place.invariant.slots z ∙ ap (λ ps. slot_over (spots_of ps) z) (take_all c.loop-place.place-index c.args.places.now c.loop-place-test.false)
