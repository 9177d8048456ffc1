use Rattle.std.proofs.Common.{◌≡◌, drop}
use Rattle.hu_proof.specs.Judged.{bound_faults}
use Rattle.hu_proof.specs.Places.{places_of}
use Rattle.hu_proof.proofs.children.check_bounds.Given as goal

abbrev pub invariant-loop-slot : goal.invariant-loop-slot
invariant-loop-slot l = bound_faults l.line l.named (places_of l.places) (drop l.slot l.tokens) ≡ bound_faults l.line l.named (places_of l.places) l.tokens
