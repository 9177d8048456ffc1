use Rattle.std.proofs.Common.{take, pos, sym, subst}
use Rattle.hu_average.specs.declared.children.Child.{Child}
use Rattle.hu_average.specs.Best.{IsKept}
use Rattle.hu_average.specs.Children.{entries_of}
use Rattle.hu_average.proofs.BestLemmas.{offered-kept}
use Rattle.hu_average.proofs.TurnLemmas.{offers-next}
use Rattle.hu_average.proofs.children.offer_children.Goals as goal

no_child : Child
no_child = record { rank = 0; total = record { utility = pos 0; support = 0; bound = pos 0 } }

pub offer_child-requires-clause-kept : goal.offer_child-requires-clause-kept
offer_child-requires-clause-kept c =
    subst IsKept (sym c.loop-child.invariant)
    (offered-kept c.args.best.now (entries_of c.args.ranked.now c.args.ranks.now (take c.loop-child.child-index c.args.children.now)))

pub loop-child-preserved : goal.loop-child-preserved
unfolding no_child
loop-child-preserved c =
    offers-next c.args.ranked.now c.args.ranks.now c.args.best.now c.loop-child.best c.offer_child.new.best c.args.children.now c.loop-child.child-index
    no_child c.loop-child-test.true c.loop-child.invariant c.in_ok-offer_child.ensures
