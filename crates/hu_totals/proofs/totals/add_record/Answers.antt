use Rattle.std.proofs.Common.{◌≤◌, ◌∙◌, pos, max, unsigned_abs, get_or, ap, sym, subst, arith, to_z, of_z}
use Rattle.std.specs.Int.{w128}
use Rattle.std.proofs.lemmas.Int.{ints}
use Rattle.hu_kind.specs.declared.item.Cell.{Cell}
use Rattle.hu_kind.specs.Cell.{pairs_of}
use Rattle.hu_kind.specs.Record.{absolute_of}
use Rattle.hu_totals.specs.Adding.{pairs_with, total_in, HasRoom}
use Rattle.hu_kind.proofs.lemmas.Earned.{gain-within}
use Rattle.hu_totals.proofs.lemmas.RoomLemmas.{total_in-before, value-within, HasRoom-less}
use Rattle.hu_totals.proofs.totals.add_record.Goals as goal

-- a cell past the end
no_cell : Cell
no_cell = record { item = record { 0 = 0 }; value = pos 0 }

pub add_cell-requires : goal.add_cell-requires
unfolding no_cell
add_cell-requires c =
    let cells = c.args.cells.now in
    let i = c.loop-cell.cell-index in
    let cell = get_or cells i no_cell in
    let totals = pairs_with c.args.totals.now.entries in
    let gained = to_z w128 (of_z w128 c.gain_of-gain.result) in
    let same = ap (λ t. total_in t cell.item.0) c.loop-cell.invariant
    ∙ total_in-before gained totals cells i no_cell c.requires.ascending c.loop-cell-test.true in
    let value = value-within cells i no_cell c.loop-cell-test.true in
    let gain = gain-within (pairs_of cells) in
    let is = c.gain_of-gain.ensures in
    let fits = c.requires.sum_fits in
    let less : max (unsigned_abs cell.value) (unsigned_abs gained) ≤ absolute_of (pairs_of cells) = omega (arith, ints) in
    record {
      room = subst (λ t. HasRoom t (max (unsigned_abs cell.value) (unsigned_abs gained))) (sym same)
          (HasRoom-less (total_in totals cell.item.0) (absolute_of (pairs_of cells))
          (max (unsigned_abs cell.value) (unsigned_abs gained)) less (c.requires.room cell.item.0));
    }
