use Rattle.std.proofs.Common.{◌∙◌, ◌+ℤ◌, ◌<ℤ◌, ◌^◌, pos, to_z, of_z, refl, sym, ap, subst, arith}
use Rattle.std.specs.Int.{w128}
use Rattle.std.proofs.lemmas.Int.{ints}
use Rattle.hu_span.specs.declared.tally.Tally.{Tally}
use Rattle.hu_span.specs.Tally.{bests_of, reaches_of, IsTally}
use Rattle.hu_span.proofs.ChildLemmas.{step-fits, step-reaches, step-told}
use Rattle.hu_span.proofs.NumberLemmas.{kept-z}
use Rattle.hu_span.proofs.TallyLemmas.{IsKept-fits}
use Rattle.hu_span.proofs.ToldLemmas.{told-rules}
use Rattle.hu_span.proofs.child.child_of.Goals as goal

pub overflow_add-result : goal.overflow_add-result
overflow_add-result c =
    let t = c.args.told.tally in
    let value = c.requires.6.tally in
    let from = c.requires.5 in
    let is : IsTally t = subst IsTally (sym value) (told-rules c.requires.3 (step-fits c.requires.0 c.requires.1 c.requires.2 c.args.step c.requires.3 from)) in
    let most : reaches_of t <ℤ pos (2 ^ 127) = subst (λ (s : Tally). reaches_of s <ℤ pos (2 ^ 127)) (sym value)
    (step-reaches c.requires.0 c.requires.1 c.requires.2 c.args.step c.requires.3 from) in
    let kept = IsKept-fits t is most in
    omega (arith, ints, is.best, is.bests, is.reach, is.reaches, most, kept.best, kept.bests)

pub overflow_add-result-2 : goal.overflow_add-result-2
overflow_add-result-2 c =
    let t = c.args.told.tally in
    let value = c.requires.6.tally in
    let from = c.requires.5 in
    let is : IsTally t = subst IsTally (sym value) (told-rules c.requires.3 (step-fits c.requires.0 c.requires.1 c.requires.2 c.args.step c.requires.3 from)) in
    let most : reaches_of t <ℤ pos (2 ^ 127) = subst (λ (s : Tally). reaches_of s <ℤ pos (2 ^ 127)) (sym value)
    (step-reaches c.requires.0 c.requires.1 c.requires.2 c.args.step c.requires.3 from) in
    let kept = IsKept-fits t is most in
    omega (arith, ints, is.best, is.bests, is.reach, is.reaches, most, kept.reach, kept.reaches)

pub returns-clause-child : goal.returns-clause-child
returns-clause-child c rs keep p marks reaches from told =
    let t = c.args.told.tally in
    let value = told.tally in
    let is : IsTally t = subst IsTally (sym value) (told-rules marks (step-fits rs keep p c.args.step marks from)) in
    let most : reaches_of t <ℤ pos (2 ^ 127) = subst (λ (s : Tally). reaches_of s <ℤ pos (2 ^ 127)) (sym value)
    (step-reaches rs keep p c.args.step marks from) in
    let kept = IsKept-fits t is most in
    let own = is.best in
    let owns = is.bests in
    let far = is.reach in
    let fars = is.reaches in
    let zb = kept.best in
    let zbs = kept.bests in
    let zr = kept.reach in
    let zrs = kept.reaches in
    let bs = kept-z (to_z w128 (of_z w128 t.bests) +ℤ to_z w128 (of_z w128 t.best)) (omega (arith, ints, zb, zbs)) (omega (arith, ints, zb, zbs)) in
    let rs' = kept-z (to_z w128 (of_z w128 t.reaches) +ℤ to_z w128 (of_z w128 t.reach)) (omega (arith, ints, zr, zrs)) (omega (arith, ints, zr, zrs)) in
    step-told rs keep p c.args.step marks from reaches _ refl
    (bs ∙ (λ j. zbs j +ℤ zb j) ∙ ap bests_of value)
    (ap (λ (s : Tally). s.rows) value)
    (rs' ∙ (λ j. zrs j +ℤ zr j) ∙ ap reaches_of value) told.spread
