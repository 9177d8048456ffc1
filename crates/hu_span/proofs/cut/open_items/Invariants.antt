use Rattle.std.proofs.Common.{◌≡◌, take, map}
use Rattle.hu_span.proofs.OpenLemmas.{AreSoFar}
use Rattle.hu_span.proofs.cut.open_items.Given as goal

abbrev pub invariant-steps : goal.invariant-steps
invariant-steps l = l.items.items ≡ map (λ step. step.item) (take l.step-index l.steps)

abbrev pub invariant-children : goal.invariant-children
invariant-children l = AreSoFar l.steps l.children l.floor l.items.items l.child-index
