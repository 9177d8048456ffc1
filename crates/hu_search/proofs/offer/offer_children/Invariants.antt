use Rattle.std.proofs.Common.{take}
use Rattle.hu_collect.specs.State.{Reached}
use Rattle.hu_search.specs.Children.{IsOneOf, ranks_of}
use Rattle.hu_search.proofs.offer.offer_children.Given as goal

abbrev pub invariant-loop-child : goal.invariant-loop-child
invariant-loop-child g l =
    Reached (g.C.Collect.state l.initial.collect) (IsOneOf l.ranked l.ranks (ranks_of (take l.child-index l.children)))
    (g.C.Collect.state l.collect)
