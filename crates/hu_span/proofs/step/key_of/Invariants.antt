use Rattle.std.proofs.Common.{◌≡◌, [], take}
use Rattle.hu_span.specs.Step.{open_key}
use Rattle.hu_span.proofs.step.key_of.Given as goal

abbrev pub invariant-steps : goal.invariant-steps
invariant-steps l = l.key ≡ open_key [] (take l.step-index l.steps)
