use Rattle.std.proofs.Common.{ap, arith, ◌≤◌, ◌+◌}
use Rattle.hu_rows.specs.Rows.{RowOf, size_of, count_of}
use Rattle.hu_rows.specs.Merging.{added}
use Rattle.hu_rows.proofs.AddedCells.{size_of-added}
use Rattle.hu_rows.specs.View.{row_of}
use Rattle.hu_rows.proofs.RunLemmas.{fold-room}
use Rattle.hu_rows.proofs.PastEnd.{past_row}
use Rattle.hu_rows.proofs.merge.merge_run.Goals as goal

pub add-requires-clause-size : goal.add-requires-clause-size
add-requires-clause-size c =
    let room = fold-room size_of size_of-added (row_of c.args.first) c.args.rest.now c.loop-row.row-index past_row c.loop-row-test.true in
    omega (arith, ap size_of c.loop-row.invariant, room, c.requires.sizes)

pub add-requires-clause-count : goal.add-requires-clause-count
add-requires-clause-count c =
    let grows : (row other : RowOf) → count_of (added row other) ≤ count_of row + count_of other = λ row other. omega arith in
    let room = fold-room count_of grows (row_of c.args.first) c.args.rest.now c.loop-row.row-index past_row c.loop-row-test.true in
    omega (arith, ap count_of c.loop-row.invariant, room, c.requires.counts)
