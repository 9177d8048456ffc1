use Rattle.std.proofs.Common.{◌≤◌, drop, length}
use Rattle.hu_proof.specs.Places.{places_of}
use Rattle.hu_proof.specs.Waiting.{stack_of, PushesChildren}
use Rattle.hu_proof.proofs.walk.push_children.Given as goal

abbrev pub invariant-tokens : goal.invariant-tokens
invariant-tokens l = record {
  within : l.i ≤ length l.tokens;
  pushed : PushesChildren l.order l.depth l.node.from (places_of l.node.places.items) (drop l.i l.tokens) (stack_of l.fn.waiting.items)
      (stack_of l.waiting.items);
}

abbrev pub decreases-tokens : goal.decreases-tokens
decreases-tokens l = l.i
