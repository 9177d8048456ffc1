use Rattle.std.proofs.Common.{◌∙◌, ◌++◌, length, get_or, refl, ap, to_z, of_z, arith}
use Rattle.std.specs.Int.{w128}
use Rattle.std.proofs.lemmas.Int.{to_z-of_z}
use Rattle.std.proofs.lemmas.List.{take_all}
use Rattle.hu_rows.specs.Handed.{reaches, narrowed, narrowed_row}
use Rattle.hu_rows.specs.View.{row_of, rows_of}
use Rattle.hu_rows.proofs.CellChecks.{below-at}
use Rattle.hu_rows.proofs.NarrowingLemmas.{narrowed-more}
use Rattle.hu_rows.proofs.PastEnd.{past_row}
use Rattle.hu_rows.proofs.narrowing.narrowed_rows.Goals as goal

pub push_narrowed-requires : goal.push_narrowed-requires
push_narrowed-requires c =
    let n = length c.args.tallies.now in
    record { below = below-at n n c.args.rows.now c.loop-row.row-index past_row c.requires.below refl c.loop-row-test.true }

pub loop-row-preserved : goal.loop-row-preserved
loop-row-preserved c =
    let floor = to_z w128 (of_z w128 c.args.floor) in
    let p = reaches c.args.tallies.now floor in
    c.in_ok-push_narrowed.ensures
    ∙ ap (λ rs. rs ++ narrowed_row p (row_of (get_or c.args.rows.now c.loop-row.row-index past_row))) c.loop-row.invariant
    ∙ narrowed-more p c.args.rows.now c.loop-row.row-index past_row c.loop-row-test.true

pub returns : goal.returns
returns c =
    c.loop-row.invariant
    ∙ (λ j. narrowed (reaches c.args.tallies.now (to_z-of_z w128 c.args.floor c.ranges.floor j))
    (rows_of (take_all c.loop-row.row-index c.args.rows.now (omega arith) j)))
