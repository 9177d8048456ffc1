use Rattle.std.proofs.Common.{◌≡◌, ℕ, ℤ, pos, ◌+ℤ◌, ◌+◌, ◌-◌, ◌<◌, ◌^◌, unsigned_abs, cond, eqb, to_z, of_z, get_or, length, drop, map}
use Rattle.std.proofs.Common.{sym, ap, ◌∙◌, arith}
use Rattle.std.specs.Int.{w128}
use Rattle.std.proofs.lemmas.Int.{ints}
use Rattle.std.proofs.lemmas.List.{length-set}
use Rattle.hu_kind.specs.Record.{gain, positive_part}
use Rattle.hu_totals.specs.declared.ranked.Dense.{Dense}
use Rattle.hu_totals.specs.View.{dense_pair}
use Rattle.hu_certify.specs.declared.slots.Slot.{Slot}
use Rattle.hu_certify.specs.Slots.{slot_of, with_more, with_spot}
use Rattle.hu_certify.proofs.SlotLemmas.{cell-at, cell-within, rank-below, slot-back, slot-more, with_spot-below}
use Rattle.hu_certify.proofs.SpotLemmas.{dense-gains}
use Rattle.hu_certify.proofs.slots.add_place.Goals as goal

-- a cell past the end
abbrev no_cell : Dense
no_cell = record { rank = 0; value = pos 0 }

-- a sum of three that fits
three : (own value later z : ℤ) → z ≡ later → unsigned_abs own + unsigned_abs value + unsigned_abs later < 2 ^ 127
    → to_z w128 (of_z w128 (to_z w128 (of_z w128 (to_z w128 (of_z w128 own) +ℤ to_z w128 (of_z w128 value))) +ℤ z)) ≡ own +ℤ value +ℤ later
three own value later z same fits =
    let both : to_z w128 (of_z w128 (to_z w128 (of_z w128 own) +ℤ to_z w128 (of_z w128 value))) ≡ own +ℤ value = omega (arith, ints, fits) in
    omega (arith, ints, both, same, fits)

pub overflow_add-place : goal.overflow_add-place
overflow_add-place c =
    let cells = c.args.place.now.rest.now in
    let i = length cells - 1 - c.loop-back.back in
    let within : i < length cells = omega (arith, c.loop-back-test.true) in
    omega (arith, ints, c.requires.fits 0, cell-within cells i no_cell within)

pub overflow_add-place-in-loop-back : goal.overflow_add-place-in-loop-back
overflow_add-place-in-loop-back c =
    let cells = c.args.place.now.rest.now in
    let i = length cells - 1 - c.loop-back.back in
    let next : length cells - c.loop-back.back ≡ i + 1 = omega (arith, c.loop-back-test.true) in
    let within : i < length cells = omega (arith, c.loop-back-test.true) in
    let rest : to_z w128 c.loop-back.rest-bits ≡ gain (map dense_pair (drop (i + 1) cells)) =
    c.loop-back.invariant.rest ∙ ap (λ n. gain (map dense_pair (drop n cells))) next in
    omega (arith, ints, rest, c.requires.fits 0, cell-within cells i no_cell within)

pub add_share-requires-clause-within : goal.add_share-requires-clause-within
add_share-requires-clause-within c =
    let cells = c.args.place.now.rest.now in
    let i = length cells - 1 - c.loop-back.back in
    let within : i < length cells = omega (arith, c.loop-back-test.true) in
    let below = cell-at (λ cell. cell.0 < length c.args.slots.now.items) cells i no_cell c.requires.ranks within in
    omega (arith, below, c.loop-back.invariant.len)

pub add_share-requires-clause-fits : goal.add_share-requires-clause-fits
add_share-requires-clause-fits c =
    let cells = c.args.place.now.rest.now in
    let own = c.args.place.now.own in
    let i = length cells - 1 - c.loop-back.back in
    let next : length cells - c.loop-back.back ≡ i + 1 = omega (arith, c.loop-back-test.true) in
    let within : i < length cells = omega (arith, c.loop-back-test.true) in
    let cell = get_or cells i no_cell in
    let rest : to_z w128 c.loop-back.rest-bits ≡ gain (map dense_pair (drop (i + 1) cells)) =
    c.loop-back.invariant.rest ∙ ap (λ n. gain (map dense_pair (drop n cells))) next in
    let first = slot_of c.args.slots.now.items cell.rank in
    let same : (slot_of c.loop-back.slots.items cell.rank).bound ≡ first.bound =
    ap (λ (s : Slot). s.bound)
    (c.loop-back.invariant.slots cell.rank ∙ ap (λ n. with_spot cell.rank (map dense_pair (drop n cells), own) first) next)
    ∙ with_spot-below cell.rank (map dense_pair (drop (i + 1) cells)) own first (rank-below cells i no_cell c.requires.ascending within) in
    let later = gain (map dense_pair (drop (i + 1) cells)) in
    let fits = c.requires.fits cell.rank in
    let sizes = cell-within cells i no_cell within in
    let sum = three own cell.value later (to_z w128 c.loop-back.rest-bits) rest (omega (arith, fits, sizes)) in
    omega (arith, ints, ap unsigned_abs same, fits, sizes, ap unsigned_abs sum, c.positive_part-share.ensures.within)

pub overflow_add-rest : goal.overflow_add-rest
overflow_add-rest c =
    let cells = c.args.place.now.rest.now in
    let i = length cells - 1 - c.loop-back.back in
    let next : length cells - c.loop-back.back ≡ i + 1 = omega (arith, c.loop-back-test.true) in
    let within : i < length cells = omega (arith, c.loop-back-test.true) in
    let rest : to_z w128 c.loop-back.rest-bits ≡ gain (map dense_pair (drop (i + 1) cells)) =
    c.loop-back.invariant.rest ∙ ap (λ n. gain (map dense_pair (drop n cells))) next in
    omega (arith, ints, rest, c.requires.fits 0, cell-within cells i no_cell within, c.positive_part-rest.ensures.within)

pub loop-back-preserved : goal.loop-back-preserved
loop-back-preserved c =
    let cells = c.args.place.now.rest.now in
    let own = c.args.place.now.own in
    let old = c.loop-back.slots.items in
    let i = length cells - 1 - c.loop-back.back in
    let next : length cells - c.loop-back.back ≡ i + 1 = omega (arith, c.loop-back-test.true) in
    let here : length cells - (c.loop-back.back + 1) ≡ i = omega (arith, c.loop-back-test.true) in
    let within : i < length cells = omega (arith, c.loop-back-test.true) in
    let cell = get_or cells i no_cell in
    let later = gain (map dense_pair (drop (i + 1) cells)) in
    let fits = c.requires.fits 0 in
    let sizes = cell-within cells i no_cell within in
    let rest : to_z w128 c.loop-back.rest-bits ≡ later =
    c.loop-back.invariant.rest ∙ ap (λ n. gain (map dense_pair (drop n cells))) next in
    let value : to_z w128 (of_z w128 cell.value) ≡ cell.value = omega (arith, ints, fits, sizes) in
    let gained : c.positive_part-rest.result ≡ positive_part cell.value = c.positive_part-rest.ensures.value ∙ ap positive_part value in
    let more : to_z w128 (of_z w128 (to_z w128 c.loop-back.rest-bits +ℤ to_z w128 (of_z w128 c.positive_part-rest.result)))
    ≡ gain (map dense_pair (drop i cells)) =
    omega (arith, ints, rest, gained, dense-gains cells i no_cell within, fits, sizes, c.positive_part-rest.ensures.within) in
    let sum = three own cell.value later (to_z w128 c.loop-back.rest-bits) rest (omega (arith, fits, sizes)) in
    let share : to_z w128 (of_z w128 c.positive_part-share.result) ≡ positive_part (own +ℤ cell.value +ℤ later) =
    (let same : to_z w128 (of_z w128 c.positive_part-share.result) ≡ c.positive_part-share.result = omega (arith, ints) in same)
    ∙ c.positive_part-share.ensures.value ∙ ap positive_part sum in
    let below = cell-at (λ (cell : ℕ × ℤ). cell.0 < length c.args.slots.now.items) cells i no_cell c.requires.ranks within in
    let inside : cell.rank < length old = omega (arith, below, c.loop-back.invariant.len) in
    let first : ℕ → Slot = λ z. slot_of c.args.slots.now.items z in
    let before : (z : ℕ) → slot_of old z ≡ with_spot z (map dense_pair (drop (i + 1) cells), own) (first z) =
    λ z. c.loop-back.invariant.slots z ∙ ap (λ n. with_spot z (map dense_pair (drop n cells), own) (first z)) next in
    let added : (z : ℕ) → slot_of c.add_share.new.slots.items z
    ≡ cond (eqb z cell.rank) (with_more (slot_of old z) (positive_part (own +ℤ cell.value +ℤ later))) (slot_of old z) =
    λ z. ap (λ slots. slot_of slots z) c.in_ok-add_share.ensures.slots ∙ slot-more old cell.rank _ inside z
    ∙ ap (λ s. cond (eqb z cell.rank) (with_more (slot_of old z) s) (slot_of old z)) share in
    record {
      len = ap length c.in_ok-add_share.ensures.slots ∙ length-set old cell.rank _ ∙ c.loop-back.invariant.len;
      rest = more ∙ sym (ap (λ n. gain (map dense_pair (drop n cells))) here);
      slots = λ z. slot-back cells i no_cell c.requires.ascending within own z (first z) (slot_of old z) (slot_of c.add_share.new.slots.items z) (before z) (added z)
          ∙ sym (ap (λ n. with_spot z (map dense_pair (drop n cells), own) (first z)) here);
      met = c.in_ok-add_share.ensures.met;
    }
