use Rattle.std.proofs.Common.{[], sym, subst, append-nil}
use Rattle.hu_span.specs.Child.{AreTold}
use Rattle.hu_span.proofs.FamilyLemmas.{may-tell-each, told-first}
use Rattle.hu_span.proofs.child.family_of.Goals as goal

pub tell_all-requires : goal.tell_all-requires
tell_all-requires c =
    let marks = c.args.marks.now in
    let links = c.in_ok-links.ensures in (
      [],
      told-first c.args.reaches.now _ _ links.rules links.none c.new-tells.ensures.items,
      may-tell-each c.requires.0 c.requires.1 c.requires.2 c.args.growth marks c.requires.3 [] marks [] (sym (append-nil marks)),
    )

pub children_told-requires : goal.children_told-requires
children_told-requires c =
    let marks = c.args.marks.now in
    let links = c.in_ok-links.ensures in
    let first = told-first c.args.reaches.now _ _ links.rules links.none c.new-tells.ensures.items in
    let told = subst (λ ts. AreTold c.args.reaches.now c.tell_all.new.links ts marks) (sym c.deref.ensures.value) (c.in_ok-tell_all.ensures [] first) in
    (c.requires.0, c.requires.1, c.requires.2, marks, c.args.reaches.now, c.requires.3, told)

pub returns-clause-all : goal.returns-clause-all
returns-clause-all c rs keep p from =
    let marks = c.args.marks.now in
    let links = c.in_ok-links.ensures in
    let first = told-first c.args.reaches.now _ _ links.rules links.none c.new-tells.ensures.items in
    let told = subst (λ ts. AreTold c.args.reaches.now c.tell_all.new.links ts marks) (sym c.deref.ensures.value) (c.in_ok-tell_all.ensures [] first) in
    c.in_ok-children.ensures.all rs keep p marks c.args.reaches.now from told

pub returns-clause-family : goal.returns-clause-family
returns-clause-family c =
    let marks = c.args.marks.now in
    let links = c.in_ok-links.ensures in
    let first = told-first c.args.reaches.now _ _ links.rules links.none c.new-tells.ensures.items in
    let told = subst (λ ts. AreTold c.args.reaches.now c.tell_all.new.links ts marks) (sym c.deref.ensures.value) (c.in_ok-tell_all.ensures [] first) in
    let linked = told.linked in
    record { lasting = c.in_ok-children.ensures.lasting marks c.args.reaches.now told; linked = linked.linked }
