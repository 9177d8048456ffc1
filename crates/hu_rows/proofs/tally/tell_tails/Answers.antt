use Rattle.std.proofs.Common.{◌-◌, ◌∙◌, refl, sym, get_or, length, unsigned_abs, ap, arith}
use Rattle.std.proofs.lemmas.Int.{ints}
use Rattle.hu_kind.specs.Record.{gain}
use Rattle.hu_totals.specs.View.{cells_of}
use Rattle.hu_rows.specs.Tally.{tail_share}
use Rattle.hu_rows.specs.View.{row_of}
use Rattle.hu_rows.proofs.SettingLemmas.{same-fit}
use Rattle.hu_rows.proofs.TallyLemmas.{Turn-at, adds-none, turn-rank, turn-value, turn-earned, turn-fits, turn-adds, turn-sum, turn-rest, turn-given}
use Rattle.hu_rows.proofs.TallyLemmas.{tail_most-within, gain-room, gain-step, gain-end}
use Rattle.hu_rows.proofs.PastEnd.{past_cell}
use Rattle.hu_rows.proofs.tally.tell_tails.Goals as goal

pub loop-place-init : goal.loop-place-init
loop-place-init c = record {
  within = omega arith;
  len = refl;
  rest = sym (gain-end c.args.row.now.cells.now);
  value = adds-none (tail_share (row_of c.args.row.now)) c.args.row.now.cells.now (length c.args.row.now.cells.now) c.args.tallies.now.items (omega arith);
}

pub earned_with-earned-requires : goal.earned_with-earned-requires
earned_with-earned-requires c =
    let turn = Turn-at c.args.row.now (length c.args.tallies.now.items) c.loop-place.place c.requires.ascending c.requires.below
    c.loop-place-test.true c.loop-place.invariant.within in
    let room = c.requires.room 0 in
    let size = room.utility in
    omega (arith, ints, turn-value turn past_cell, size)

pub tail_share-requires : goal.tail_share-requires
tail_share-requires c =
    let turn = Turn-at c.args.row.now (length c.args.tallies.now.items) c.loop-place.place c.requires.ascending c.requires.below
    c.loop-place-test.true c.loop-place.invariant.within in
    let room = c.requires.room 0 in
    let size = room.utility in
    let earned = turn-sum turn past_cell c.earned_with-earned.result (omega arith) c.earned_with-earned.ensures in
    record {
      rest = c.loop-place.invariant.rest ∙ ap (λ cs. gain (cells_of cs)) (sym (turn-rest turn past_cell));
      fits = omega (arith, ints, earned, c.loop-place.invariant.rest, turn-earned turn past_cell, size);
    }

pub add-requires-clause-within : goal.add-requires-clause-within
add-requires-clause-within c =
    let turn = Turn-at c.args.row.now (length c.args.tallies.now.items) c.loop-place.place c.requires.ascending c.requires.below
    c.loop-place-test.true c.loop-place.invariant.within in
    omega (arith, turn-rank turn past_cell, c.loop-place.invariant.len)

pub with_gain-rest-requires : goal.with_gain-rest-requires
with_gain-rest-requires c =
    let room = c.requires.room 0 in
    let size = room.utility in
    omega (
      arith,
      ints,
      c.loop-place.invariant.rest,
      gain-room c.args.row.now.cells.now c.loop-place.place past_cell c.loop-place-test.true c.loop-place.invariant.within,
      size,
    )

pub add-requires-clause-fits : goal.add-requires-clause-fits
add-requires-clause-fits c =
    let row = row_of c.args.row.now in
    let cells = c.args.row.now.cells.now in
    let place = c.loop-place.place in
    let turn = Turn-at c.args.row.now (length c.args.tallies.now.items) c.loop-place.place c.requires.ascending c.requires.below
    c.loop-place-test.true c.loop-place.invariant.within in
    let cell = get_or cells (place - 1) past_cell in
    let room = c.requires.room cell.rank in
    let size = room.utility in
    let given = turn-given turn past_cell c.earned_with-earned.result c.tail_share.result (omega arith) c.earned_with-earned.ensures c.tail_share.ensures in
    turn-fits turn past_cell (tail_share row) c.args.tallies.now.items c.loop-place.tallies.items c.loop-place.invariant.value c.tail_share.result room
    (omega (arith, ap (λ t. unsigned_abs t.utility) given))
    (omega (arith, ap (λ t. t.count) given))
    (omega (arith, ap (λ t. unsigned_abs t.bound) given, tail_most-within row cell.rank))

pub loop-place-preserved : goal.loop-place-preserved
loop-place-preserved c =
    let row = row_of c.args.row.now in
    let cells = c.args.row.now.cells.now in
    let place = c.loop-place.place in
    let turn = Turn-at c.args.row.now (length c.args.tallies.now.items) c.loop-place.place c.requires.ascending c.requires.below
    c.loop-place-test.true c.loop-place.invariant.within in
    let cell = get_or cells (place - 1) past_cell in
    let room = c.requires.room cell.rank in
    let size = room.utility in
    let given = turn-given turn past_cell c.earned_with-earned.result c.tail_share.result (omega arith) c.earned_with-earned.ensures c.tail_share.ensures in
    let value = same-fit cell.value (omega (arith, turn-value turn past_cell)) in
    record {
      within = omega (arith, c.loop-place.invariant.within);
      len = c.add.ensures.len ∙ c.loop-place.invariant.len;
      rest = gain-step cells place past_cell c.loop-place-test.true c.loop-place.invariant.within _ _ c.loop-place.invariant.rest value
          (omega (arith, size)) c.with_gain-rest.ensures;
      value = turn-adds turn past_cell (tail_share row) c.args.tallies.now.items c.loop-place.tallies.items c.loop-place.invariant.value
          c.add.new.tallies.items c.tail_share.result given c.add.ensures.value;
    }
