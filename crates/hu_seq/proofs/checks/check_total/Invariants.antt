use Rattle.std.proofs.Common.{◌≡◌, drop, filter_map}
use Rattle.hu_seq.specs.Token.{sum_in}
use Rattle.hu_seq.proofs.checks.check_total.Given as goal

abbrev pub invariant-loop-token : goal.invariant-loop-token
invariant-loop-token l = filter_map sum_in l.tokens ≡ filter_map sum_in (drop l.token-index l.tokens)
