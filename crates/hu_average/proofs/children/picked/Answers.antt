use Rattle.std.proofs.Common.{pos}
use Rattle.hu_average.specs.declared.children.Child.{Child}
use Rattle.hu_average.proofs.SearchLemmas.{picked-skip, picked-next, picked-all}
use Rattle.hu_average.proofs.children.picked.Goals as goal

no_child : Child
no_child = record { rank = 0; total = record { utility = pos 0; support = 0; bound = pos 0 } }

pub loop-child-preserved-then-is_shut : goal.loop-child-preserved-then-is_shut
unfolding no_child
loop-child-preserved-then-is_shut c =
    picked-skip c.args.best.now c.args.ranked.now c.requires.rules c.args.ranks.now c.args.children.now c.loop-child.picked.items c.requires.children
    c.loop-child.child-index no_child c.loop-child-test.true c.loop-child.invariant (c.is_shut.ensures.shut c.if-is_shut.true)

pub loop-child-preserved : goal.loop-child-preserved
unfolding no_child
loop-child-preserved c =
    picked-next c.args.best.now c.args.ranked.now c.requires.rules c.args.ranks.now c.args.children.now c.loop-child.picked.items c.requires.children
    c.loop-child.child-index no_child c.loop-child-test.true c.loop-child.invariant c.push.new.self.items c.in_ok-push.ensures.items
    (c.is_shut.ensures.some c.if-is_shut.false)

pub returns : goal.returns
returns c =
    picked-all c.args.best.now c.args.ranked.now c.args.ranks.now c.args.children.now c.loop-child.picked.items c.loop-child.child-index
    c.loop-child-test.false c.loop-child.invariant
