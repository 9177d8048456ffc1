use Rattle.std.proofs.Common.{◌≡◌, ◌+ℤ◌, ◌-◌, ◌∙◌, refl, subst, get_or, length, unsigned_abs, ap, to_z, of_z, arith}
use Rattle.std.specs.Int.{w128}
use Rattle.std.proofs.lemmas.Int.{ints}
use Rattle.hu_rows.specs.Tally.{tally_with, row_share, most, AreNoted}
use Rattle.hu_rows.specs.View.{row_of}
use Rattle.hu_rows.proofs.SettingLemmas.{same-fit}
use Rattle.hu_rows.proofs.TallyLemmas.{Turn-at, adds-none, turn-rank, turn-value, turn-fits, turn-adds, turn-share, most-within, value-size, noted-add}
use Rattle.hu_rows.proofs.PastEnd.{past_cell}
use Rattle.hu_rows.proofs.tally.tell_row.Goals.{After-share_of}
use Rattle.hu_rows.proofs.tally.tell_row.Goals as goal

pub most-bound-requires : goal.most-bound-requires
most-bound-requires c = let room = c.requires.room 0 in let size = room.utility in omega arith

pub loop-place-init : goal.loop-place-init
loop-place-init c = record {
  within = omega arith;
  len = refl;
  value = adds-none (row_share (row_of c.args.row.now)) c.args.row.now.cells.now (length c.args.row.now.cells.now) c.args.tallies.now.items (omega arith);
  noted = c.requires.noted;
}

pub note-requires-clause-within : goal.note-requires-clause-within
note-requires-clause-within c =
    let turn = Turn-at c.args.row.now (length c.args.tallies.now.items) c.loop-place.place c.requires.ascending c.requires.below
    c.loop-place-test.true c.loop-place.invariant.within in
    omega (arith, turn-rank turn past_cell, c.loop-place.invariant.len, ap length c.deref.ensures.value)

pub add-requires-clause-within : goal.add-requires-clause-within
add-requires-clause-within c =
    let turn = Turn-at c.args.row.now (length c.args.tallies.now.items) c.loop-place.place c.requires.ascending c.requires.below
    c.loop-place-test.true c.loop-place.invariant.within in
    omega (arith, turn-rank turn past_cell, c.loop-place.invariant.len)

pub share_of-requires : goal.share_of-requires
share_of-requires c =
    let turn = Turn-at c.args.row.now (length c.args.tallies.now.items) c.loop-place.place c.requires.ascending c.requires.below
    c.loop-place-test.true c.loop-place.invariant.within in
    let room = c.requires.room 0 in
    let size = room.utility in
    omega (arith, ints, turn-value turn past_cell, size)

-- what the row says of the cell's rank
given_at : (c : After-share_of)
    → c.share_of.result ≡ row_share (row_of c.args.row.now) (get_or c.args.row.now.cells.now (c.loop-place.place - 1) past_cell).rank
given_at c =
    let row = row_of c.args.row.now in
    let turn = Turn-at c.args.row.now (length c.args.tallies.now.items) c.loop-place.place c.requires.ascending c.requires.below
    c.loop-place-test.true c.loop-place.invariant.within in
    let cell = get_or c.args.row.now.cells.now (c.loop-place.place - 1) past_cell in
    let room = c.requires.room cell.rank in
    let size = room.utility in
    let value : to_z w128 (of_z w128 cell.value) ≡ cell.value = same-fit cell.value (omega (arith, turn-value turn past_cell, size)) in
    let bound : to_z w128 (of_z w128 c.most-bound.result) ≡ most row = ap (λ z. to_z w128 (of_z w128 z)) c.most-bound.ensures
    ∙ same-fit (most row) (omega (arith, most-within row, size)) in
    c.share_of.ensures ∙ (λ j. tally_with (row.before +ℤ value j) row.count (bound j)) ∙ turn-share turn past_cell (most row) refl

pub add-requires-clause-fits : goal.add-requires-clause-fits
add-requires-clause-fits c =
    let row = row_of c.args.row.now in
    let turn = Turn-at c.args.row.now (length c.args.tallies.now.items) c.loop-place.place c.requires.ascending c.requires.below
    c.loop-place-test.true c.loop-place.invariant.within in
    let cell = get_or c.args.row.now.cells.now (c.loop-place.place - 1) past_cell in
    let room = c.requires.room cell.rank in
    let given = given_at c in
    turn-fits turn past_cell (row_share row) c.args.tallies.now.items c.loop-place.tallies.items c.loop-place.invariant.value c.share_of.result room
    (omega (arith, ap (λ t. unsigned_abs t.utility) given, value-size row cell.rank))
    (omega (arith, ap (λ t. t.count) given))
    (omega (arith, ap (λ t. unsigned_abs t.bound) given, most-within row))

pub loop-place-preserved : goal.loop-place-preserved
loop-place-preserved c =
    let row = row_of c.args.row.now in
    let turn = Turn-at c.args.row.now (length c.args.tallies.now.items) c.loop-place.place c.requires.ascending c.requires.below
    c.loop-place-test.true c.loop-place.invariant.within in
    let cell = get_or c.args.row.now.cells.now (c.loop-place.place - 1) past_cell in
    let given = given_at (goal.at.loop-place-preserved c).After-share_of in
    record {
      within = omega (arith, c.loop-place.invariant.within);
      len = c.add.ensures.len ∙ c.loop-place.invariant.len;
      value = turn-adds turn past_cell (row_share row) c.args.tallies.now.items c.loop-place.tallies.items c.loop-place.invariant.value
          c.add.new.tallies.items c.share_of.result given c.add.ensures.value;
      noted = noted-add c.loop-place.tallies.items c.add.new.tallies.items c.note.new.met.items cell.rank c.share_of.result
          (subst (λ ts. AreNoted ts c.note.new.met.items) c.deref.ensures.value c.in_ok-note.ensures.noted) c.in_ok-note.ensures.here c.add.ensures.len
          c.add.ensures.value;
    }
