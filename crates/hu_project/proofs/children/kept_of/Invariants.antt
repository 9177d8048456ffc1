use Rattle.std.proofs.Common.{◌≡◌, int_le, take}
use Rattle.std.specs.List.{filter}
use Rattle.hu_project.proofs.children.kept_of.Given as goal

abbrev pub invariant-loop-child : goal.invariant-loop-child
invariant-loop-child l = l.kept.items ≡ filter (λ child. int_le l.floor child.bound) (take l.child-index l.children)
