use Rattle.std.proofs.Common.{◌≡◌, drop}
use Rattle.hu_kind.specs.Sequence.{better}
use Rattle.hu_chain.specs.Bound.{best_of}
use Rattle.hu_chain.proofs.chain.best_of.Given as goal

abbrev pub invariant-loop-place : goal.invariant-loop-place
invariant-loop-place l = better l.best (best_of (drop l.place-index l.places)) ≡ best_of l.places
