use Rattle.std.proofs.Common.{◌<◌, ◌∙◌, ℕ, length, arith}
use Rattle.std.specs.Int.{w128}
use Rattle.std.proofs.lemmas.Int.{to_z-of_z}
use Rattle.std.proofs.lemmas.List.{take_all}
use Rattle.hu_totals.specs.View.{cells_of}
use Rattle.hu_totals.proofs.lemmas.DenseLemmas.{rank-at}
use Rattle.hu_rows.specs.Handed.{reaches, only}
use Rattle.hu_rows.proofs.NarrowingLemmas.{only-more}
use Rattle.hu_rows.proofs.PastEnd.{past_cell}
use Rattle.hu_rows.proofs.narrowing.keep_cells.Goals as goal

pub reaches-requires : goal.reaches-requires
reaches-requires c =
    rank-at (λ (rank : ℕ). rank < length c.args.tallies.now) c.args.cells.now c.loop-cell.cell-index past_cell c.requires.below c.loop-cell-test.true

pub loop-cell-preserved : goal.loop-cell-preserved
loop-cell-preserved c =
    only-more (reaches c.args.tallies.now _) c.args.cells.now c.loop-cell.cell-index past_cell c.loop-cell.kept.items c.push_cell.new.kept.items
    c.reaches.result c.loop-cell-test.true c.loop-cell.invariant c.reaches.ensures.value c.in_ok-push_cell.ensures

pub returns : goal.returns
returns c =
    c.loop-cell.invariant
    ∙ (λ j. only (reaches c.args.tallies.now (to_z-of_z w128 c.args.floor c.ranges.floor j))
    (cells_of (take_all c.loop-cell.cell-index c.args.cells.now (omega arith) j)))
