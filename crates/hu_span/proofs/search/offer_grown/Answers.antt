use Rattle.std.proofs.Common.{sym, subst}
use Rattle.std.specs.List.{AllByRecursion}
use Rattle.hu_chain.specs.declared.chain.Growth.TheVariants.{IntoLast, AfterLast}
use Rattle.hu_span.specs.Child.{AreChildren, IsChild, IsGathered}
use Rattle.hu_span.specs.Step.{pattern_of}
use Rattle.hu_span.proofs.SearchLemmas.{offers-all}
use Rattle.hu_span.proofs.search.offer_grown.Goals as goal

pub offer_children-requires-clause-children : goal.offer_children-requires-clause-children
offer_children-requires-clause-children g c =
    let p = pattern_of c.args.steps.now.items in
    let rs = c.requires.grown.0 in
    let keep = c.requires.grown.1 in
    let gathered = c.requires.grown.2 in
    let are = c.in_ok-children.ensures.children rs keep p (subst (IsGathered rs keep p IntoLast) (sym c.deref.ensures.value) gathered.into)
    (subst (IsGathered rs keep p AfterLast) (sym c.deref-2.ensures.value) gathered.after) in
    (rs, keep, subst (AllByRecursion (IsChild rs keep p)) (sym c.deref-3.ensures.value) are.each)

pub returns-clause-made : goal.returns-clause-made
returns-clause-made g c rs keep own gathered =
    let p = pattern_of c.args.steps.now.items in
    let are = c.in_ok-children.ensures.children rs keep p (subst (IsGathered rs keep p IntoLast) (sym c.deref.ensures.value) gathered.into)
    (subst (IsGathered rs keep p AfterLast) (sym c.deref-2.ensures.value) gathered.after) in
    let seen = subst (AreChildren rs keep p) (sym c.deref-3.ensures.value) are in
    offers-all _ _ rs keep p c.deref-3.result.now c.offer_children.result own seen (c.offer_children.ensures.made rs keep seen.each)
