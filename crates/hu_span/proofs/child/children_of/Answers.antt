use Rattle.std.proofs.Common.{sym, subst}
use Rattle.std.specs.List.{AllByRecursion}
use Rattle.hu_kind.proofs.lemmas.Each.{each-append}
use Rattle.hu_span.specs.Child.{AreChildren, IsSpread}
use Rattle.hu_span.proofs.ChildLemmas.{children-both}
use Rattle.hu_span.proofs.child.children_of.Goals as goal

pub returns-clause-children : goal.returns-clause-children
returns-clause-children c rs keep p into after =
    let one = c.in_ok-first.ensures.all rs keep p into in
    let two = c.in_ok-second.ensures.all rs keep p after in
    subst (AreChildren rs keep p) (sym c.in_ok-append.ensures.items)
    (children-both rs keep p c.in_ok-first.first.children.items c.in_ok-second.second.children.items one.are two.are)

pub returns-clause-spreads : goal.returns-clause-spreads
returns-clause-spreads c rs keep p into after =
    let one = c.in_ok-first.ensures.all rs keep p into in
    let two = c.in_ok-second.ensures.all rs keep p after in
    let P = IsSpread c.args.reaches.now rs p in
    subst (AllByRecursion P) (sym c.in_ok-append.ensures.items)
    (each-append P c.in_ok-first.first.children.items c.in_ok-second.second.children.items one.spreads two.spreads)
