use Rattle.std.proofs.Common.{◌≡◌, take}
use Rattle.hu_average.specs.Best.{offered}
use Rattle.hu_average.specs.Children.{entries_of}
use Rattle.hu_average.proofs.children.offer_children.Given as goal

abbrev pub invariant-loop-child : goal.invariant-loop-child
invariant-loop-child l = l.best ≡ offered l.fn.best (entries_of l.ranked l.ranks (take l.child-index l.children))
