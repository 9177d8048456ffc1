use Rattle.std.proofs.Common.{◌≡◌, drop, map}
use Rattle.hu_kind.specs.First.{first_some}
use Rattle.hu_proof.specs.Check.{not_cut}
use Rattle.hu_proof.proofs.children.check_cuts.Given as goal

abbrev pub invariant-loop-token : goal.invariant-loop-token
invariant-loop-token l = first_some (map (not_cut l.line l.least) (drop l.token-index l.tokens)) ≡ first_some (map (not_cut l.line l.least) l.tokens)
