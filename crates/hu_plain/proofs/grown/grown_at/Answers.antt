use Rattle.std.proofs.Common.{pos, arith}
use Rattle.std.proofs.lemmas.Int.{ints}
use Rattle.hu_kind.specs.declared.item.Cell.{Cell}
use Rattle.hu_plain.proofs.CellLemmas.{absolute_of-at, rest_of}
use Rattle.hu_plain.proofs.GrownLemmas.{at_place}
use Rattle.hu_plain.proofs.grown.grown_at.Goals as goal

no_cell : Cell
no_cell = record { item = record { 0 = 0 }; value = pos 0 }

pub overflow_add-result : goal.overflow_add-result
unfolding no_cell
overflow_add-result c = omega (arith, ints, absolute_of-at c.args.row.now.tail.now c.args.place no_cell c.requires.within, c.requires.fits)

pub returns : goal.returns
unfolding no_cell
returns c =
    let row = c.args.row.now in
    let within = absolute_of-at row.tail.now c.args.place no_cell c.requires.within in
    let fits = c.requires.fits in
    at_place row _ _ c.args.place no_cell c.requires.within (omega (arith, ints, within, fits)) (rest_of row.tail.now c.args.place)
