use Rattle.std.proofs.Common.{None, ◌<ℤ◌, pos, take, get_or, sym, subst, arith, rules, SFits, to_z, of_z}
use Rattle.std.specs.List.{AllByRecursion}
use Rattle.std.specs.Int.{w128}
use Rattle.std.proofs.lemmas.Int.{ints, to_z-of_z}
use Rattle.std.proofs.lemmas.List.{take_all, take_more}
use Rattle.hu_kind.proofs.lemmas.Each.{each-push}
use Rattle.hu_chain.specs.declared.chain.Growth.TheVariants.{IntoLast}
use Rattle.hu_span.specs.declared.child.Child.{Child}
use Rattle.hu_span.proofs.cut.any_reaches.Goals as goal

abbrev no_child : Child
no_child = record {
  step = record { growth = IntoLast; item = record { 0 = 0 } };
  utility = pos 0;
  support = 0;
  bound = pos 0;
  spread = None;
  last = 0;
}

pub children-preserved : goal.children-preserved
children-preserved c =
    let children = c.args.children.now in
    let i = c.children.child-index in
    let floor = to_z w128 (of_z w128 c.args.floor) in
    let child = get_or children i no_child in
    let fits : SFits w128 child.bound = search rules in
    let bound = to_z-of_z w128 child.bound fits in
    let low : child.bound <ℤ floor = omega (arith, ints, c.if-child-floor.false, bound) in
    subst (AllByRecursion (λ (one : Child). one.bound <ℤ floor)) (sym (take_more children i no_child c.children-test.true))
    (each-push (λ (one : Child). one.bound <ℤ floor) (take i children) child c.children.invariant low)

pub returns : goal.returns
returns c none =
    let children = c.args.children.now in
    let floor = to_z w128 (of_z w128 c.args.floor) in
    let all = take_all c.children.child-index children c.children-test.false in
    subst (λ f. AllByRecursion (λ (child : Child). child.bound <ℤ f) children) (to_z-of_z w128 c.args.floor c.ranges.floor)
    (subst (AllByRecursion (λ (child : Child). child.bound <ℤ floor)) all c.children.invariant)
