use Rattle.std.proofs.Common.{pos, [], arith, add-one}
use Rattle.std.proofs.lemmas.Int.{ints}
use Rattle.hu_plain.specs.declared.row.Row.{Row}
use Rattle.hu_plain.proofs.RowLemmas.{earned-more, sum-within}
use Rattle.hu_plain.proofs.row.total_earned.Goals as goal

-- a row past the end
no_row : Row
no_row = record { earned = pos 0; tail = record { ref_ptr = (0, 0); now = [] } }

pub overflow_add-sum : goal.overflow_add-sum
unfolding no_row
overflow_add-sum c =
    let within = sum-within c.args.rows.now c.loop-row.row-index no_row c.loop-row-test.true in
    let so_far = c.loop-row.invariant in
    let fits = c.requires.sum_fits in
    omega (arith, ints, within, so_far, fits)

pub loop-row-preserved : goal.loop-row-preserved
unfolding no_row
loop-row-preserved c =
    let within = sum-within c.args.rows.now c.loop-row.row-index no_row c.loop-row-test.true in
    let more = earned-more c.args.rows.now c.loop-row.row-index no_row c.loop-row-test.true in
    let so_far = c.loop-row.invariant in
    let fits = c.requires.sum_fits in
    rw add-one (omega (arith, ints, within, more, so_far, fits))
