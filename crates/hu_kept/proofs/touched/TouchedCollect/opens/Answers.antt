use Rattle.std.proofs.Common.{◌≡◌, ◌∙◌, subst, sym}
use Rattle.std.proofs.lemmas.Bool.{eqb-true, not-false}
use Rattle.hu_closed.specs.Keys.{key_support}
use Rattle.hu_collect.specs.Ranks.{IsShut}
use Rattle.hu_kept.specs.Touched.{batch_in, inner_of, touched_state}
use Rattle.hu_kept.proofs.TouchedLemmas.{wants-untouched}
use Rattle.hu_kept.proofs.touched.TouchedCollect.opens.Goals as goal

pub returns-else-is_held-clause-grown : goal.returns-else-is_held-clause-grown
returns-else-is_held-clause-grown g c shut =
    let zero = not-false _ (sym c.is_held.ensures.value ∙ shut) in
    let none : key_support c.self.inside.batch.now c.args.key.now ≡ 0 = eqb-true _ 0 zero in
    let all = wants-untouched (g.C.Collect.state c.self.inside.inner).rule c.self.inside.batch.now c.args.key.now c.args.last none in
    subst (λ v. IsShut (touched_state (g.C.Collect.state (inner_of v)) (batch_in v)).rule c.args.key.now c.args.last) c.self.view_is all
