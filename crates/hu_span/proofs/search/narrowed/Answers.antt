use Rattle.std.proofs.Common.{◌≡◌, ◌∙◌, ◌<◌, ◌<ℤ◌, false, sym, subst, length, IfSome, to_z, of_z, SFits, rules}
use Rattle.std.specs.Int.{w128}
use Rattle.std.specs.List.{AllByRecursion}
use Rattle.std.proofs.lemmas.Int.{to_z-of_z}
use Rattle.hu_collect.specs.State.{floor_in, Reached}
use Rattle.hu_collect.proofs.lemmas.Searching.{some-reached}
use Rattle.hu_chain.specs.Bound.{IsFit}
use Rattle.hu_span.specs.declared.child.Child.{Child}
use Rattle.hu_span.specs.declared.mark.Mark.{Mark}
use Rattle.hu_span.specs.Mark.{places_of}
use Rattle.hu_span.specs.Child.{AreChildren}
use Rattle.hu_span.specs.Cut.{AreBelow, AreOpen}
use Rattle.hu_span.specs.Kept.{keeps, weighed_of}
use Rattle.hu_span.specs.Search.{IsOneOf}
use Rattle.hu_span.specs.Step.{pattern_of}
use Rattle.hu_span.proofs.SearchLemmas.{ended, marks-within, narrowed-all, offered-some, narrows-stopped}
use Rattle.hu_span.proofs.WeighedLemmas.{weighed-records}
use Rattle.hu_span.proofs.RowsLemmas.{fit-each}
use Rattle.hu_span.proofs.search.narrowed.Goals as goal

pub set_reaches-requires-clause-within : goal.set_reaches-requires-clause-within
set_reaches-requires-clause-within g c =
    subst (AllByRecursion (λ (mark : Mark). mark.row < length c.args.reaches.now)) (sym c.deref.ensures.value)
    (marks-within c.args.level.records.now (keeps c.args.level.kept.now) _ (length c.args.reaches.now) c.args.held.now.marks.items c.requires.rows
    c.requires.held.places.each)

pub set_reaches-requires-clause-fit : goal.set_reaches-requires-clause-fit
set_reaches-requires-clause-fit g c =
    subst (λ ms. AllByRecursion IsFit (places_of ms)) (sym c.deref.ensures.value)
    (fit-each (weighed_of (keeps c.args.level.kept.now) c.args.level.records.now) _ c.args.held.now.marks.items c.requires.held.places.each)

pub scanned-requires : goal.scanned-requires
scanned-requires g c = (keeps c.args.level.kept.now, c.args.level.records.now, pattern_of c.args.steps.now.items, c.requires.held)

pub offer_children-requires-clause-children : goal.offer_children-requires-clause-children
offer_children-requires-clause-children g c =
    let keep = keeps c.args.level.kept.now in
    let rs = weighed_of keep c.args.level.records.now in
    let p = pattern_of c.args.steps.now.items in
    let are = subst (AreChildren rs keep p) (sym c.deref-2.ensures.value) (c.in_ok-children.ensures.children keep c.args.level.records.now p c.requires.held) in
    (rs, keep, are.each)

pub returns-in_err-offer_children-clause-made : goal.returns-in_err-offer_children-clause-made
returns-in_err-offer_children-clause-made g c =
    let keep = keeps c.args.level.kept.now in
    let rs = weighed_of keep c.args.level.records.now in
    let p = pattern_of c.args.steps.now.items in
    let are = subst (AreChildren rs keep p) (sym c.deref-2.ensures.value) (c.in_ok-children.ensures.children keep c.args.level.records.now p c.requires.held) in
    narrows-stopped rs c.args.level.kept.now p c.from_residual-in_err-offer_children.result c.from_residual-in_err-offer_children.ensures.0
    (offered-some rs keep p c.requires.pattern c.deref-2.result.now are.each (c.in_err-offer_children.ensures.made rs keep are.each))

pub returns-then-not-any_reaches-clause-made : goal.returns-then-not-any_reaches-clause-made
returns-then-not-any_reaches-clause-made g c =
    let keep = keeps c.args.level.kept.now in
    let rs = weighed_of keep c.args.level.records.now in
    let p = pattern_of c.args.steps.now.items in
    let known = weighed-records keep c.args.level.records.now c.requires.records in
    let children = c.in_ok-children.children.items in
    let all = c.in_ok-children.ensures.children keep c.args.level.records.now p c.requires.held in
    let seen = subst (AreChildren rs keep p) (sym c.deref-2.ensures.value) all in
    let made = subst (λ cs. Reached (g.C.Collect.state c.args.collect.now) (IsOneOf rs p cs) (g.C.Collect.state c.offer_children.new.collect))
    c.deref-2.ensures.value (c.in_ok-offer_children.ensures.made rs keep seen.each) in
    let fits : SFits w128 c.floor-floor.result = search rules in
    let floor_is : to_z w128 (of_z w128 c.floor-floor.result) ≡ floor_in (g.C.Collect.state c.offer_children.new.collect) = to_z-of_z w128
    c.floor-floor.result fits ∙ c.floor-floor.ensures.value in
    let none : c.any_reaches.result ≡ false = c.if-not-any_reaches.true in
    let low = subst (λ f. AllByRecursion (λ (child : Child). child.bound <ℤ f) children) floor_is
    (subst (AllByRecursion (λ (child : Child). child.bound <ℤ to_z w128 (of_z w128 c.floor-floor.result))) c.deref-3.ensures.value
    (c.any_reaches.ensures none)) in
    ended rs keep p children known c.requires.held.reached c.requires.pattern c.requires.ordered all low made

pub returns-in_err-fewer-clause-made : goal.returns-in_err-fewer-clause-made
returns-in_err-fewer-clause-made g c =
    let keep = keeps c.args.level.kept.now in
    let rs = weighed_of keep c.args.level.records.now in
    let p = pattern_of c.args.steps.now.items in
    let are = subst (AreChildren rs keep p) (sym c.deref-2.ensures.value) (c.in_ok-children.ensures.children keep c.args.level.records.now p c.requires.held) in
    let made = c.in_ok-offer_children.ensures.made rs keep are.each in
    narrows-stopped rs c.args.level.kept.now p c.from_residual-in_err-fewer.result c.from_residual-in_err-fewer.ensures.0
    (offered-some rs keep p c.requires.pattern c.deref-2.result.now are.each
    (some-reached {P = IsOneOf rs p c.deref-2.result.now} {R = IsOneOf rs p c.deref-2.result.now} (λ x one. one) made))

pub returns-clause-made : goal.returns-clause-made
returns-clause-made g c =
    let keep = keeps c.args.level.kept.now in
    let rs = weighed_of keep c.args.level.records.now in
    let p = pattern_of c.args.steps.now.items in
    let known = weighed-records keep c.args.level.records.now c.requires.records in
    let children = c.in_ok-children.children.items in
    let all = c.in_ok-children.ensures.children keep c.args.level.records.now p c.requires.held in
    let spreads = c.in_ok-children.ensures.spreads keep c.args.level.records.now p c.requires.held in
    let fits : SFits w128 c.floor-floor.result = search rules in
    let floor_is : to_z w128 (of_z w128 c.floor-floor.result) ≡ floor_in (g.C.Collect.state c.offer_children.new.collect) = to_z-of_z w128
    c.floor-floor.result fits
    ∙ c.floor-floor.ensures.value in
    let floor = to_z w128 (of_z w128 c.floor-floor.result) in
    let steps = c.deref-4.ensures.value ∙ c.in_ok-offer_children.ensures.steps in
    let opened : IfSome c.in_ok-fewer.fewer (AreOpen c.args.steps.now.items children floor) =
    subst (λ cs. IfSome c.in_ok-fewer.fewer (AreOpen c.args.steps.now.items cs floor)) c.deref-5.ensures.value
    (subst (λ ss. IfSome c.in_ok-fewer.fewer (AreOpen ss c.deref-5.result.now floor)) steps c.in_ok-fewer.ensures) in
    let seen = subst (AreChildren rs keep p) (sym c.deref-2.ensures.value) all in
    let made = subst (λ cs. Reached (g.C.Collect.state c.args.collect.now) (IsOneOf rs p cs) (g.C.Collect.state c.offer_children.new.collect))
    c.deref-2.ensures.value (c.in_ok-offer_children.ensures.made rs keep seen.each) in
    let below = subst (AreBelow c.set_reaches.new.reaches) c.deref.ensures.value c.set_reaches.ensures in
    narrowed-all rs c.args.level.kept.now c.args.steps.now.items c.args.held.now.marks.items children c.set_reaches.new.reaches floor c.in_ok-fewer.fewer known
    c.requires.held.reached c.requires.pattern c.requires.held.places all below spreads floor_is opened made
