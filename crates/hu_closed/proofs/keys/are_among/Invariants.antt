use Rattle.std.proofs.Common.{◌≡◌, true, take}
use Rattle.hu_totals.specs.Weights.{numbers_of}
use Rattle.hu_closed.specs.Keys.{are_among}
use Rattle.hu_closed.proofs.keys.are_among.Given as goal

abbrev pub invariant-loop-number : goal.invariant-loop-number
invariant-loop-number l = are_among (numbers_of l.items) (take l.number-index l.key) ≡ true
