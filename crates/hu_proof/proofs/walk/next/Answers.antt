use Rattle.std.proofs.Common.{ap, ◌∙◌, ◌++◌, ◌∷◌, []}
use Rattle.hu_proof.proofs.WalkLemmas.{steps}
use Rattle.hu_proof.proofs.walk.next.Goals as goal

pub returns-clause-some : goal.returns-clause-some
returns-clause-some c =
    steps c.args.progress.now.path.items c.push.new.self.items c.args.progress.now.waiting.items c.pop.new.self.items c.in-Some.field-0 c.in-Some.ensures.items
    (c.in_ok-push.ensures.items ∙ ap (λ ys. ys ++ c.in-Some.field-0.item ∷ []) c.truncate.ensures.items)
