use Rattle.std.proofs.Common.{◌∙◌, sym, subst, arith}
use Rattle.std.specs.List.{AllByRecursion}
use Rattle.std.proofs.lemmas.List.{take_all}
use Rattle.hu_kind.proofs.lemmas.Each.{each-get}
use Rattle.hu_collect.specs.State.{Reached}
use Rattle.hu_collect.proofs.lemmas.Searching.{stopped}
use Rattle.hu_span.specs.Child.{IsChild}
use Rattle.hu_span.specs.Search.{IsOneOf}
use Rattle.hu_span.specs.Step.{pattern_of}
use Rattle.hu_span.proofs.SearchLemmas.{offered-turn, some-offered}
use Rattle.hu_span.proofs.search.offer_children.Goals as goal

pub returns-in_err-offer_child-clause-made : goal.returns-in_err-offer_child-clause-made
returns-in_err-offer_child-clause-made g c rs keep each =
    let children = c.args.children.now in
    let i = c.children.child-index in
    let seen = c.children.steps.items in
    let again = subst (λ ss. AllByRecursion (IsChild rs keep (pattern_of ss)) children) (sym c.children.invariant.steps) each in
    stopped {P = IsOneOf rs (pattern_of c.args.steps.now.items) children} c.from_residual.result c.from_residual.ensures.0
    (some-offered rs (pattern_of c.args.steps.now.items) children i (c.children.invariant.made rs keep each)
    (c.in_err-offer_child.ensures.made rs keep (each-get (IsChild rs keep (pattern_of seen)) children i _ again c.children-test.true)))

pub children-preserved : goal.children-preserved
children-preserved g c = record {
  steps = c.in_ok-offer_child.ensures.steps ∙ c.children.invariant.steps;
  made = λ rs keep each.
      let children = c.args.children.now in
      let i = c.children.child-index in
      let seen = c.children.steps.items in
      let again = subst (λ ss. AllByRecursion (IsChild rs keep (pattern_of ss)) children) (sym c.children.invariant.steps) each in
      offered-turn rs c.args.steps.now.items seen children i _ c.children-test.true c.requires.ordered c.children.invariant.steps
      (c.children.invariant.made rs keep each)
      (c.in_ok-offer_child.ensures.made rs keep (each-get (IsChild rs keep (pattern_of seen)) children i _ again c.children-test.true));
}

pub returns-clause-made : goal.returns-clause-made
returns-clause-made g c rs keep each =
    let children = c.args.children.now in
    subst (λ cs. Reached (g.C.Collect.state c.args.collect.now) (IsOneOf rs (pattern_of c.args.steps.now.items) cs) (g.C.Collect.state c.children.collect))
    (take_all c.children.child-index children (omega (arith, c.children-test.false))) (c.children.invariant.made rs keep each)
