use Rattle.std.proofs.Common.{◌≤◌, ℕ, length}
use Rattle.hu_span.specs.Links.{keys_of, IsBack}
use Rattle.hu_span.proofs.LinkLemmas.{IsCollected}
use Rattle.hu_span.proofs.links.collected.Given as goal

abbrev pub invariant-older : goal.invariant-older
invariant-older l = record {
  within : l.upto ≤ length l.held.marks.items;
  marks : (item : ℕ) → IsBack (keys_of l.held.marks.items) item l.last (length l.held.marks.items)
      → IsCollected item (keys_of l.held.marks.items) l.held.marks.items l.upto l.own.marks.items;
  spans : (item : ℕ) → IsBack (keys_of l.held.marks.items) item l.last (length l.held.marks.items)
      → IsCollected item (keys_of l.held.marks.items) l.held.spans.items l.upto l.own.spans.items;
}

abbrev pub decreases-older : goal.decreases-older
decreases-older l = l.upto
