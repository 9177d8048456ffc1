use Rattle.std.proofs.Common.{◌∙◌, [], sym, ap, arith, add-one, get_or}
use Rattle.std.proofs.lemmas.List.{take_all}
use Rattle.hu_chain.specs.declared.chain.Growth.TheVariants.{IntoLast}
use Rattle.hu_span.specs.declared.step.Step.{Step}
use Rattle.hu_kind.specs.Sequence.{closed}
use Rattle.hu_span.specs.Step.{grown_key, open_key}
use Rattle.hu_span.proofs.StepLemmas.{closed-open_key, open_key-next}
use Rattle.hu_span.proofs.step.key_of.Goals as goal

pub steps-preserved : goal.steps-preserved
steps-preserved c =
    let none : Step = record { growth = IntoLast; item = record { 0 = 0 } } in
    let step = get_or c.args.steps.now c.steps.step-index none in
    let next = open_key-next [] c.args.steps.now c.steps.step-index none c.steps-test.true in
    rw add-one (c.in_ok-push_step.ensures ∙ ap (λ k. grown_key k step.growth step.item.0) c.steps.invariant ∙ sym next)

pub returns : goal.returns
returns c =
    let all = take_all c.steps.step-index c.args.steps.now (omega (arith, c.steps-test.false)) in
    c.in_ok-end_itemset.ensures.ok ∙ ap closed (c.steps.invariant ∙ ap (open_key []) all) ∙ closed-open_key c.args.steps.now c.requires
