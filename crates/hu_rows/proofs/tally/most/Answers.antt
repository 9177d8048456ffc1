use Rattle.std.proofs.Common.{◌≡◌, ◌-◌, ◌∙◌, drop, get_or, ap, to_z, arith}
use Rattle.std.specs.Int.{w128}
use Rattle.std.proofs.lemmas.Int.{ints}
use Rattle.hu_kind.specs.Record.{gain}
use Rattle.hu_kind.proofs.lemmas.Earned.{gain-within}
use Rattle.hu_rows.specs.View.{row_of}
use Rattle.hu_rows.proofs.SettingLemmas.{same-fit}
use Rattle.hu_rows.proofs.TallyLemmas.{gain-room, gain-step, most-is}
use Rattle.hu_rows.proofs.PastEnd.{past_cell}
use Rattle.hu_totals.specs.View.{cells_of}
use Rattle.hu_rows.proofs.tally.most.Goals as goal

pub with_gain-sum-requires : goal.with_gain-sum-requires
with_gain-sum-requires c =
    omega (
      arith,
      ints,
      c.loop-place.invariant.sum,
      gain-room c.args.row.now.cells.now c.loop-place.place past_cell c.loop-place-test.true c.loop-place.invariant.within,
      c.requires,
    )

pub loop-place-preserved : goal.loop-place-preserved
loop-place-preserved c =
    let cells = c.args.row.now.cells.now in
    let place = c.loop-place.place in
    let room = gain-room cells place past_cell c.loop-place-test.true c.loop-place.invariant.within in
    record {
      within = omega (arith, c.loop-place.invariant.within);
      sum = gain-step cells place past_cell c.loop-place-test.true c.loop-place.invariant.within _ _ c.loop-place.invariant.sum
          (same-fit (get_or cells (place - 1) past_cell).value (omega (arith, room, c.requires))) (omega (arith, c.requires)) c.with_gain-sum.ensures;
    }

pub overflow_add-row : goal.overflow_add-row
overflow_add-row c =
    let end : c.loop-place.place ≡ 0 = omega arith in
    let whole : to_z w128 c.loop-place.sum-bits ≡ gain (cells_of c.args.row.now.cells.now) = c.loop-place.invariant.sum
    ∙ ap (λ n. gain (cells_of (drop n c.args.row.now.cells.now))) end in
    omega (arith, ints, whole, gain-within (cells_of c.args.row.now.cells.now), c.requires)

pub returns : goal.returns
returns c =
    let end : c.loop-place.place ≡ 0 = omega arith in
    let whole : to_z w128 c.loop-place.sum-bits ≡ gain (cells_of c.args.row.now.cells.now) = c.loop-place.invariant.sum
    ∙ ap (λ n. gain (cells_of (drop n c.args.row.now.cells.now))) end in
    most-is (row_of c.args.row.now) (to_z w128 c.loop-place.sum-bits) c.positive_part.result whole c.requires c.positive_part.ensures.value
