use Rattle.std.proofs.Common.{ℕ, ℤ, Bool, List, ◌<◌}
use Rattle.std.specs.List.{AllByRecursion}
use Rattle.hu_span.specs.declared.mark.Mark.{Mark}
use Rattle.hu_span.specs.Child.{AreLasting, AreTold, HasStep, IsChild, IsGathered, IsSpread}
use Rattle.hu_span.specs.Growing.{Pattern, Records}
use Rattle.hu_span.specs.Links.{at}
use Rattle.hu_span.proofs.child.children_told.Given as goal

abbrev pub invariant-tells : goal.invariant-tells
invariant-tells l = record {
  each : (rs : Records) → (keep : ℕ → Bool) → (p : Pattern) → (marks : List Mark) → (reaches : List ℤ) → IsGathered rs keep p l.growth marks
      → AreTold reaches l.links l.tells marks
      → AllByRecursion (IsChild rs keep p) l.children.items × AllByRecursion (IsSpread reaches rs p) l.children.items;
  has : (n : ℕ) → n < l.number → HasStep l.children.items l.growth (at l.links.numbers.items.items n);
  lasting : (marks : List Mark) → (reaches : List ℤ) → AreTold reaches l.links l.tells marks → AreLasting l.growth marks l.children.items;
}
