use Rattle.std.proofs.Common.{◌≡◌, take}
use Rattle.hu_search.specs.Children.{ranks_of}
use Rattle.hu_search.proofs.child.ranks_of.Given as goal

abbrev pub invariant-loop-child : goal.invariant-loop-child
invariant-loop-child l = l.ranks.items ≡ ranks_of (take l.child-index l.children)
