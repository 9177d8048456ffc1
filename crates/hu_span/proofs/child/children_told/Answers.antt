use Rattle.std.proofs.Common.{◌≡◌, ◌∙◌, ◌<◌, length, None, pos, sym, ap, subst, inl, inr, arith}
use Rattle.std.specs.List.{AllByRecursion}
use Rattle.std.proofs.lemmas.Bool.{cases_eq}
use Rattle.hu_kind.proofs.lemmas.Each.{each-push}
use Rattle.hu_span.specs.declared.step.Step.{Step}
use Rattle.hu_span.specs.declared.tally.Told.{Told}
use Rattle.hu_span.specs.Child.{AreLasting, HasStep, IsChild, IsSpread, IsStep}
use Rattle.hu_span.specs.Links.{at}
use Rattle.hu_span.specs.Mark.{marks_with}
use Rattle.hu_span.proofs.FamilyLemmas.{has-here, has-push, last-told, lasting-push, number-told, step-told}
use Rattle.hu_span.proofs.LinkLemmas.{at-any}
use Rattle.hu_span.proofs.MarkLemmas.{no_mark}
use Rattle.hu_span.proofs.child.children_told.Goals as goal

no_told : Told
no_told = record { tally = record { row = 0; rows = 0; best = pos 0; bests = pos 0; reach = pos 0; reaches = pos 0 }; spread = None }

pub child_of-requires : goal.child_of-requires
unfolding no_told
child_of-requires c =
    let told = c.requires.6 in
    let n = c.tells.number in
    let items = c.args.links.now.numbers.items.items in
    let inside : n < length items = omega (arith, c.tells-test.true, told.size) in
    let item : c.index.result.now ≡ at items n = c.index.ensures ∙ at-any items n c.index.result.now inside in
    let step = step-told c.requires.0 c.requires.1 c.requires.2 c.args.growth c.requires.3 c.requires.5 c.requires.4 c.args.links.now c.args.tells.now told n
    no_mark c.tells-test.true in (
      c.requires.0,
      c.requires.1,
      c.requires.2,
      marks_with (at items n) c.requires.3,
      c.requires.4,
      subst (λ i. IsStep c.requires.0 c.requires.1 c.requires.2 (record { growth = c.args.growth; item = record { 0 = i } })
          (marks_with (at items n) c.requires.3)) (sym item) step,
      told.each n no_told c.tells-test.true,
    )

pub tells-preserved : goal.tells-preserved
unfolding no_told
tells-preserved c =
    let n = c.tells.number in
    let growth = c.args.growth in
    let links = c.args.links.now in
    let tells = c.args.tells.now in
    let items = links.numbers.items.items in
    let lasts = links.lasts.items in
    let known = c.requires.6 in
    let linked = known.linked in
    let children = c.tells.children.items in
    let child = c.child_of.result in
    let pushed = c.in_ok-push.ensures.items in
    let within = c.tells-test.true in
    let inside : n < length items = omega (arith, within, known.size) in
    let inside' : n < length lasts = omega (arith, inside, linked.size) in
    let item : c.index.result.now ≡ at items n = c.index.ensures ∙ at-any items n c.index.result.now inside in
    let last : child.last ≡ at lasts n = c.child_of.ensures.last ∙ c.index-in-tells.ensures ∙ at-any lasts n c.index-in-tells.result.now inside' in
    let grows = ap (λ (s : Step). s.growth) c.child_of.ensures.step in
    let takes = ap (λ (s : Step). s.item.0) c.child_of.ensures.step ∙ item in
    record {
      each = λ rs keep p marks reaches from told.
          let both = c.tells.invariant.each rs keep p marks reaches from told in
          let step = step-told rs keep p growth marks from reaches links tells told n no_mark within in
          let step' = subst (λ i. IsStep rs keep p (record { growth = growth; item = record { 0 = i } }) (marks_with (at items n) marks)) (sym item) step in
          let made = c.child_of.ensures.child rs keep p (marks_with (at items n) marks) reaches step' (told.each n no_told within) in (
            subst (AllByRecursion (IsChild rs keep p)) (sym pushed) (each-push (IsChild rs keep p) children child both.0 made.0),
            subst (AllByRecursion (IsSpread reaches rs p)) (sym pushed) (each-push (IsSpread reaches rs p) children child both.1 made.1),
          );
      has = λ m low. subst (λ cs. HasStep cs growth (at items m)) (sym pushed) (elim (cases_eq m n) [
        | inl e ↦ has-here children child growth (at items m) grows (takes ∙ ap (at items) (sym e))
        | inr ne ↦ has-push children child growth (at items m) (c.tells.invariant.has m (omega (arith, low, ne)))
      ]);
      lasting = λ marks reaches told. subst (AreLasting growth marks) (sym pushed)
          (lasting-push growth marks children child (c.tells.invariant.lasting marks reaches told) grows
          (last-told reaches links tells marks child n told within takes last));
    }

pub returns-clause-all : goal.returns-clause-all
returns-clause-all c rs keep p marks reaches from told =
    let both = c.tells.invariant.each rs keep p marks reaches from told in
    record {
      are = record {
        each = both.0;
        all = λ item kept may held.
            let n = number-told rs keep p c.args.growth marks from reaches c.args.links.now c.args.tells.now told item kept may held in
            let low = n.1 in
            subst (HasStep c.tells.children.items c.args.growth) n.2 (c.tells.invariant.has n.0 (omega (arith, low, c.tells-test.false)));
      };
      spreads = both.1;
    }
