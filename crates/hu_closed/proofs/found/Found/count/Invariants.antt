use Rattle.std.proofs.Common.{◌≡◌, count_by, take}
use Rattle.hu_closed.specs.Keys.{are_among}
use Rattle.hu_closed.proofs.found.Found.count.Given as goal

abbrev pub invariant-loop-index : goal.invariant-loop-index
invariant-loop-index l = l.count ≡ count_by (λ items. are_among items l.key) (take l.index l.self)
