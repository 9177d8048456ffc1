use Rattle.std.proofs.Common.{◌∙◌, inl, map, sym, ap, subst, arith, to_z, of_z, Contains, None, pos}
use Rattle.std.specs.Int.{w128}
use Rattle.std.proofs.lemmas.Int.{to_z-of_z}
use Rattle.std.proofs.lemmas.List.{take_all}
use Rattle.hu_chain.specs.declared.chain.Growth.TheVariants.{IntoLast}
use Rattle.hu_span.specs.declared.child.Child.{Child}
use Rattle.hu_span.specs.declared.step.Step.{Step}
use Rattle.hu_span.proofs.OpenLemmas.{open-all, open-next, AreSoFar}
use Rattle.hu_span.proofs.cut.open_items.Goals as goal

pub children-init : goal.children-init
children-init c =
    let same = c.steps.invariant ∙ ap (map (λ (s : Step). s.item)) (take_all c.steps.step-index c.args.steps.now (omega (arith, c.steps-test.false))) in
    record { known = λ one k. inl (subst (λ xs. Contains xs one) same k); own = λ one k. subst (λ xs. Contains xs one) (sym same) k; reaching = tt }

pub children-preserved : goal.children-preserved
children-preserved c =
    let none : Child = record {
      step = record { growth = IntoLast; item = record { 0 = 0 } };
      utility = pos 0;
      support = 0;
      bound = pos 0;
      spread = None;
      last = 0;
    } in
    let floor = to_z w128 (of_z w128 c.args.floor) in
    open-next c.args.steps.now c.args.children.now floor c.children.items.items c.push_if.new.items.items c.children.child-index none
    c.is_open.result c.children-test.true c.children.invariant c.in_ok-push_if.ensures.known c.in_ok-push_if.ensures.before c.in_ok-push_if.ensures.kept
    c.is_open.ensures

pub returns : goal.returns
returns c =
    let floor = to_z-of_z w128 c.args.floor c.ranges.floor in
    open-all c.args.steps.now c.args.children.now c.args.floor c.children.items.items c.children.child-index c.in_ok-kept.kept
    (take_all c.children.child-index c.args.children.now (omega (arith, c.children-test.false)))
    (subst (λ f. AreSoFar c.args.steps.now c.args.children.now f c.children.items.items c.children.child-index) floor c.children.invariant)
    c.in_ok-kept.ensures.known c.in_ok-kept.ensures.all
