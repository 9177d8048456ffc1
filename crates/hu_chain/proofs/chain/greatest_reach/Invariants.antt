use Rattle.std.proofs.Common.{◌≡◌, drop}
use Rattle.hu_kind.specs.Sequence.{better}
use Rattle.hu_chain.specs.Bound.{greatest, reach}
use Rattle.hu_chain.proofs.chain.greatest_reach.Given as goal

abbrev pub invariant-loop-place : goal.invariant-loop-place
invariant-loop-place l = better l.bound (greatest reach (drop l.place-index l.places)) ≡ greatest reach l.places
