use Rattle.std.proofs.Common.{◌≡◌, ℕ, Bool, take}
use Rattle.std.specs.List.{AllByRecursion}
use Rattle.hu_collect.specs.State.{Reached}
use Rattle.hu_span.specs.Child.{IsChild}
use Rattle.hu_span.specs.Growing.{Records}
use Rattle.hu_span.specs.Search.{IsOneOf}
use Rattle.hu_span.specs.Step.{pattern_of}
use Rattle.hu_span.proofs.search.offer_children.Given as goal

abbrev pub invariant-children : goal.invariant-children
invariant-children g l = record {
  steps : l.steps.items ≡ l.initial.steps.items;
  made : (rs : Records) → (keep : ℕ → Bool) → AllByRecursion (IsChild rs keep (pattern_of l.initial.steps.items)) l.children
      → Reached (g.C.Collect.state l.initial.collect) (IsOneOf rs (pattern_of l.initial.steps.items) (take l.child-index l.children))
      (g.C.Collect.state l.collect);
}
