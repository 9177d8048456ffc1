use Rattle.std.proofs.Common.{take}
use Rattle.std.specs.List.{AllByRecursion}
use Rattle.hu_span.specs.Branch.{AreCopies, HasPlaces, IsPart}
use Rattle.hu_span.specs.Growing.{Pattern, Records}
use Rattle.hu_span.proofs.child.kept_of.Given as goal

abbrev pub invariant-children : goal.invariant-children
invariant-children l = record {
  copies : (rs : Records) → (p : Pattern) → AllByRecursion (HasPlaces rs p l.held.marks.items) l.children
      → AreCopies rs p l.floor (take l.child-index l.children) l.kept.items;
  parts : AllByRecursion (IsPart l.held) l.kept.items;
}
