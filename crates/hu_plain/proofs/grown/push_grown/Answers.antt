use Rattle.hu_plain.proofs.GrownLemmas.{pushed}
use Rattle.hu_plain.proofs.grown.push_grown.Goals as goal

pub loop-place-preserved : goal.loop-place-preserved
loop-place-preserved c =
    pushed c.loop-place.grown.items c.push.new.self.items c.grown_at.result _ _ _ c.in_ok-push.ensures.items
    c.grown_at.ensures c.loop-place.invariant
