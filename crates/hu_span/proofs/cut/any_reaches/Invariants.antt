use Rattle.std.proofs.Common.{◌<ℤ◌, take}
use Rattle.std.specs.List.{AllByRecursion}
use Rattle.hu_span.specs.declared.child.Child.{Child}
use Rattle.hu_span.proofs.cut.any_reaches.Given as goal

abbrev pub invariant-children : goal.invariant-children
invariant-children l = AllByRecursion (λ (child : Child). child.bound <ℤ l.floor) (take l.child-index l.children)
