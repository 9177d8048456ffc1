use Rattle.std.proofs.Common.{None, sym, subst, take, ap, get_or, int_le, rules, SFits, to_z, of_z, pos, []}
use Rattle.std.specs.Int.{w128}
use Rattle.std.proofs.lemmas.Int.{to_z-of_z}
use Rattle.std.proofs.lemmas.List.{take_all}
use Rattle.hu_kind.proofs.lemmas.Each.{each-get}
use Rattle.hu_chain.specs.declared.chain.Growth.TheVariants.{IntoLast}
use Rattle.hu_span.specs.declared.child.Child.{Child}
use Rattle.std.specs.List.{AllByRecursion}
use Rattle.hu_span.specs.Branch.{AreCopies, HasPlaces, IsPart}
use Rattle.hu_span.specs.Child.{IsLast}
use Rattle.hu_span.proofs.BranchLemmas.{copies-next, copies-none, parts-next}
use Rattle.hu_span.proofs.child.kept_of.Goals as goal

abbrev no_child : Child
no_child = record {
  step = record { growth = IntoLast; item = record { 0 = 0 } };
  utility = pos 0;
  support = 0;
  bound = pos 0;
  spread = None;
  last = 0;
}

pub children-init : goal.children-init
children-init c =
    let none = c.new-kept.ensures.items in
    record {
      copies = λ rs p places.
          let floor = to_z w128 (of_z w128 c.args.floor) in
          subst (AreCopies rs p floor []) (sym none) (copies-none rs p floor);
      parts = subst (AllByRecursion (IsPart c.args.held.now)) (sym none) tt;
    }

pub push_if-requires-clause-last : goal.push_if-requires-clause-last
push_if-requires-clause-last c =
    each-get (IsLast c.args.held.now.marks.items) c.args.children.now c.children.child-index no_child c.requires.lasts c.children-test.true

pub children-preserved : goal.children-preserved
children-preserved c =
    let held = c.args.held.now in
    let children = c.args.children.now in
    let i = c.children.child-index in
    let floor = to_z w128 (of_z w128 c.args.floor) in
    let bound = (get_or children i no_child).bound in
    let fits : SFits w128 bound = search rules in
    record {
      copies = λ rs p places.
          copies-next rs p floor held children c.children.kept.items c.push_if.new.kept.items i no_child _ c.children-test.true
          (c.children.invariant.copies rs p places) (ap (int_le floor) (to_z-of_z w128 bound fits))
          (each-get (HasPlaces rs p held.marks.items) children i no_child places c.children-test.true) c.in_ok-push_if.ensures;
      parts = parts-next held c.children.kept.items c.push_if.new.kept.items (get_or children i no_child) _ c.children.invariant.parts
          c.in_ok-push_if.ensures;
    }

pub returns-clause-copies : goal.returns-clause-copies
returns-clause-copies c rs p places =
    let all = take_all c.children.child-index c.args.children.now c.children-test.false in
    subst (λ cs. AreCopies rs p c.args.floor cs c.children.kept.items) all
    (subst (λ f. AreCopies rs p f (take c.children.child-index c.args.children.now) c.children.kept.items) (to_z-of_z w128 c.args.floor c.ranges.floor)
    (c.children.invariant.copies rs p places))
