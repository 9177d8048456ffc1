use Rattle.std.proofs.Common.{◌<ℤ◌, ◌≡◌, ◌∙◌, ◌∷◌, [], to_z, of_z, SFits, rules, sym, ap, subst, arith}
use Rattle.std.specs.Int.{w128}
use Rattle.std.proofs.lemmas.Int.{ints, to_z-of_z}
use Rattle.hu_kind.specs.declared.entry.Entry.{Entry}
use Rattle.hu_kind.specs.Sequence.{sequence_key, sequence_utility}
use Rattle.hu_collect.specs.State.{floor_in, Takes}
use Rattle.hu_collect.proofs.lemmas.Searching.{offered-low}
use Rattle.hu_span.specs.Child.{child_entry, stepped}
use Rattle.hu_span.specs.Step.{pattern_of}
use Rattle.hu_span.proofs.StepLemmas.{pattern_of-push}
use Rattle.hu_span.proofs.search.offer_child.Goals as goal

pub returns-then-child-floor-clause-made : goal.returns-then-child-floor-clause-made
returns-then-child-floor-clause-made g c rs keep is =
    let state = g.C.Collect.state c.args.collect.now in
    let entry = child_entry rs (pattern_of c.args.steps.now.items) c.args.child.now in
    let low : entry.utility <ℤ floor_in state = omega (arith, ints, is.utility, c.floor.ensures.value, c.if-child-floor.true) in
    sym (offered-low state entry c.floor.ensures.in_order low)

pub returns-clause-made : goal.returns-clause-made
returns-clause-made g c rs keep is =
    let steps = c.args.steps.now.items in
    let child = c.args.child.now in
    let key = c.in_ok-key.ensures ∙ ap (λ ss. sequence_key (pattern_of ss)) (c.deref.ensures.value ∙ c.in_ok-push.ensures.items) ∙ ap sequence_key
    (pattern_of-push steps child.step) in
    let fits : SFits w128 child.utility = search rules in
    let earned : to_z w128 (of_z w128 child.utility) ≡ sequence_utility rs (stepped (pattern_of steps) child.step) = to_z-of_z w128 child.utility fits
    ∙ is.utility in
    let held = is.support in
    let same : record { key = c.in_ok-key.key; utility = to_z w128 (of_z w128 child.utility); support = child.support } ≡ child_entry rs
    (pattern_of steps) child =
    (λ j. record { key = key j; utility = earned j; support = held j }) in
    subst (λ (e : Entry). Takes (g.C.Collect.state c.args.collect.now) (e ∷ []) (g.C.Collect.state c.offer.new.self) c.offer.result) same c.offer.ensures
