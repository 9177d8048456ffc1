use Rattle.std.proofs.Common.{sym, subst}
use Rattle.std.specs.List.{AllByRecursion}
use Rattle.hu_kind.proofs.lemmas.Each.{each-append}
use Rattle.hu_span.specs.Child.{AreChildren, IsSpread}
use Rattle.hu_span.specs.Kept.{weighed_of}
use Rattle.hu_span.proofs.ChildLemmas.{children-both}
use Rattle.hu_span.proofs.scan.scanned.Goals as goal

pub returns-clause-children : goal.returns-clause-children
returns-clause-children c keep records p are =
    let rs = weighed_of keep records in
    let one = c.in_ok-children.ensures keep records p are in
    let two = c.in_ok-later.ensures keep records p are in
    subst (AreChildren rs keep p) (sym c.in_ok-append.ensures.items)
    (children-both rs keep p c.in_ok-children.children.items c.in_ok-later.later.items one.are two.are)

pub returns-clause-spreads : goal.returns-clause-spreads
returns-clause-spreads c keep records p are =
    let one = c.in_ok-children.ensures keep records p are in
    let two = c.in_ok-later.ensures keep records p are in
    let P = IsSpread c.args.reaches.now (weighed_of keep records) p in
    subst (AllByRecursion P) (sym c.in_ok-append.ensures.items)
    (each-append P c.in_ok-children.children.items c.in_ok-later.later.items one.spreads two.spreads)
