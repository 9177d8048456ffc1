use Rattle.std.proofs.Common.{get_or, unsigned_abs, pos, arith, rules, ap, FitsSigned}
use Rattle.std.specs.Int.{w128}
use Rattle.std.proofs.lemmas.Int.{ints, to_z-of_z}
use Rattle.hu_kind.specs.declared.item.Cell.{Cell}
use Rattle.hu_kind.specs.Record.{positive_part}
use Rattle.hu_trans.proofs.SumsLemmas.{absolute-drop, total-drop, gain-drop}
use Rattle.hu_trans.proofs.sums.Sums.of.Goals as goal

pub loop-cell-preserved : goal.loop-cell-preserved
loop-cell-preserved c =
    let none : Cell = record { item = record { 0 = 0 }; value = pos 0 } in
    let value = (get_or c.args.cells.now c.loop-cell.cell-index none).value in
    let absolute = absolute-drop c.args.cells.now c.loop-cell.cell-index none c.loop-cell-test.true in
    let plain = total-drop c.args.cells.now c.loop-cell.cell-index none c.loop-cell-test.true in
    let positive = gain-drop c.args.cells.now c.loop-cell.cell-index none c.loop-cell-test.true in
    let fits : FitsSigned w128 value = search rules in
    let same = to_z-of_z w128 value fits in
    let part_fits : FitsSigned w128 c.positive_part-positive.result = search rules in
    let part_same = to_z-of_z w128 c.positive_part-positive.result part_fits in
    record {
      small = omega arith;
      plain_within = omega (arith, ints);
      positive_within = omega (arith, ints);
      absolute_so_far = omega (arith, ap unsigned_abs same);
      plain_so_far = omega (arith, ints);
      positive_so_far = omega (arith, ints, ap positive_part same);
    }
