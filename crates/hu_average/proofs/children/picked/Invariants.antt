use Rattle.hu_average.proofs.SearchLemmas.{ArePickedUpto}
use Rattle.hu_average.proofs.children.picked.Given as goal

abbrev pub invariant-loop-child : goal.invariant-loop-child
invariant-loop-child l = ArePickedUpto l.best l.ranked l.ranks l.children l.picked.items l.child-index
