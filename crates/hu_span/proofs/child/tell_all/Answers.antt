use Rattle.std.proofs.Common.{◌++◌, ◌∷◌, [], ◌∙◌, take, get_or, sym, ap, subst, arith, append_assoc, append-nil}
use Rattle.std.proofs.lemmas.List.{take_all, take_more}
use Rattle.hu_span.specs.Child.{AreTold}
use Rattle.hu_span.proofs.MarkLemmas.{no_mark}
use Rattle.hu_span.proofs.child.tell_all.Goals as goal

pub marks-init : goal.marks-init
marks-init c before is = subst (AreTold c.args.reaches.now c.args.links.now c.args.tells.now.items) (sym (append-nil before)) is

pub tell-requires : goal.tell-requires
tell-requires c =
    let i = c.marks.mark-index in
    let before = c.requires.0 in
    (before ++ take i c.args.marks.now, c.marks.invariant before c.requires.1, c.requires.2 i no_mark c.marks-test.true)

pub marks-preserved : goal.marks-preserved
marks-preserved c before is =
    let marks = c.args.marks.now in
    let i = c.marks.mark-index in
    let next = append_assoc before (take i marks) (get_or marks i no_mark ∷ []) ∙ ap (λ ms. before ++ ms)
    (sym (take_more marks i no_mark c.marks-test.true)) in
    subst (AreTold c.args.reaches.now c.tell.new.links c.tell.new.tells.items) next
    (c.in_ok-tell.ensures (before ++ take i marks) (c.marks.invariant before is))

pub returns : goal.returns
returns c before is =
    let all = take_all c.marks.mark-index c.args.marks.now (omega (arith, c.marks-test.false)) in
    subst (λ ms. AreTold c.args.reaches.now c.marks.links c.marks.tells.items (before ++ ms)) all (c.marks.invariant before is)
