use Rattle.std.proofs.Common.{◌∙◌, ◌*◌, sum_by, ap, arith}
use Rattle.hu_kind.specs.Record.{absolute_of}
use Rattle.hu_base.specs.Base.{records_of, sum_of}
use Rattle.hu_drill.specs.Draws.{after_draws}
use Rattle.hu_drill.specs.Drilled.{cells_of}
use Rattle.hu_drill.proofs.DrawLemmas.{after_draws-more}
use Rattle.hu_drill.proofs.DrilledLemmas.{absolute_of-cells_of, sum-drilled, drilled-more}
use Rattle.hu_drill.proofs.records.make.Goals as goal

pub add_fitting-requires : goal.add_fitting-requires
add_fitting-requires c =
    let items = c.args.items in
    let before = ap (sum_of absolute_of) c.loop.invariant.value in
    let one = ap absolute_of c.in_ok-next_record.ensures.value in
    omega (
      arith,
      before,
      one,
      sum-drilled c.args.seed c.loop.counter items c.requires.items,
      absolute_of-cells_of items c.loop.draws.state,
      c.loop-test.true,
      c.requires.records,
      c.requires.items,
    )

pub loop-preserved : goal.loop-preserved
loop-preserved c =
    let kept = c.loop.invariant in
    let items = c.args.items in
    record {
      state = c.in_ok-next_record.ensures.state ∙ ap (after_draws (2 * items)) kept.state ∙ after_draws-more (2 * items) c.loop.counter c.args.seed;
      value = drilled-more c.args.seed c.loop.counter items c.in_ok-next_record.field-0 c.loop.base c.add_fitting.new.self kept.value
          (c.in_ok-next_record.ensures.value ∙ ap (cells_of items) kept.state) c.in_ok-add_fitting.ensures.ok;
    }

pub returns-clause-sum : goal.returns-clause-sum
returns-clause-sum c =
    let made = ap (λ b. sum_by absolute_of (records_of b)) c.loop.invariant.value in
    omega (arith, made, sum-drilled c.args.seed c.loop.counter c.args.items c.requires.items)
