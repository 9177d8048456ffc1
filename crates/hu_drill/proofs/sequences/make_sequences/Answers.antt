use Rattle.std.proofs.Common.{◌∙◌, ◌*◌, sum_by, ap, sym, subst, arith}
use Rattle.std.specs.List.{AllByRecursion}
use Rattle.hu_kind.specs.Sequence.{IsSequence}
use Rattle.hu_kind.specs.Record.{absolute_of}
use Rattle.hu_base.specs.Base.{records_of, sum_of}
use Rattle.hu_drill.specs.Draws.{after_draws}
use Rattle.hu_drill.specs.Drilled.{elements_of}
use Rattle.hu_drill.proofs.DrawLemmas.{after_draws-more}
use Rattle.hu_drill.proofs.DrilledLemmas.{sum-elements_of, sum-drilled_sequences, AllIsSequence-drilled, drilled_sequences-more}
use Rattle.hu_drill.proofs.sequences.make_sequences.Goals as goal

pub add_fitting-requires : goal.add_fitting-requires
add_fitting-requires c =
    let elements = c.args.elements in
    let before = ap (sum_of (sum_by absolute_of)) c.loop.invariant.value in
    let one = ap (sum_by absolute_of) c.in_ok-next_sequence.ensures.value in
    omega (
      arith,
      before,
      one,
      sum-drilled_sequences c.args.seed c.loop.counter elements c.requires.elements,
      sum-elements_of elements c.loop.draws.state,
      c.loop-test.true,
      c.requires.records,
      c.requires.elements,
    )

pub loop-preserved : goal.loop-preserved
loop-preserved c =
    let kept = c.loop.invariant in
    let elements = c.args.elements in
    record {
      state = c.in_ok-next_sequence.ensures.state ∙ ap (after_draws (4 * elements)) kept.state ∙ after_draws-more (4 * elements) c.loop.counter c.args.seed;
      value = drilled_sequences-more c.args.seed c.loop.counter elements c.in_ok-next_sequence.field-0 c.loop.base c.add_fitting.new.self kept.value
          (c.in_ok-next_sequence.ensures.value ∙ ap (elements_of elements) kept.state) c.in_ok-add_fitting.ensures.ok;
    }

pub returns-clause-sum : goal.returns-clause-sum
returns-clause-sum c =
    let made = ap (λ b. sum_by (sum_by absolute_of) (records_of b)) c.loop.invariant.value in
    omega (arith, made, sum-drilled_sequences c.args.seed c.loop.counter c.args.elements c.requires.elements)

pub returns-clause-rules : goal.returns-clause-rules
returns-clause-rules c =
    subst (λ b. AllByRecursion IsSequence (records_of b)) (sym c.loop.invariant.value)
    (AllIsSequence-drilled c.args.seed c.loop.counter c.args.elements c.requires.some c.requires.elements)
