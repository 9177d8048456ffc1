use Rattle.std.proofs.Common.{sym, subst, IfOk, to_z, of_z}
use Rattle.std.specs.Int.{w128}
use Rattle.std.specs.List.{AllByRecursion}
use Rattle.std.proofs.lemmas.Int.{to_z-of_z}
use Rattle.hu_span.specs.Branch.{AreCopies, HasPlaces}
use Rattle.hu_span.specs.Child.{IsFamily, IsGathered}
use Rattle.hu_span.proofs.BranchLemmas.{branches-by}
use Rattle.hu_span.proofs.FamilyLemmas.{places-told}
use Rattle.hu_span.proofs.child.branches_by.Goals as goal

pub returns-clause-branches : goal.returns-clause-branches
returns-clause-branches c rs keep p from =
    let marks = c.args.held.now.marks.items in
    let children = c.in_ok-family.family.children.items in
    let from' = subst (IsGathered rs keep p c.args.growth) (sym c.deref.ensures.value) from in
    let all = c.in_ok-family.ensures.all rs keep p from' in
    let are = all.are in
    let told = subst (λ ms. IsFamily c.args.growth ms c.in_ok-family.family) c.deref.ensures.value c.in_ok-family.ensures.family in
    let lasting = told.lasting in
    let places = places-told rs keep p c.args.growth marks from children are.each lasting.growths in
    let copies = c.kept_of.ensures.copies rs p (subst (AllByRecursion (HasPlaces rs p marks)) (sym c.deref-3.ensures.value) places) in
    branches-by rs keep p c.args.growth c.args.floor children c.kept_of.result are
    (subst (λ f. IfOk c.kept_of.result (λ kept. AreCopies rs p f children kept.items)) (to_z-of_z w128 c.args.floor c.ranges.floor)
    (subst (λ cs. IfOk c.kept_of.result (λ kept. AreCopies rs p (to_z w128 (of_z w128 c.args.floor)) cs kept.items)) c.deref-3.ensures.value copies))
