use Rattle.std.proofs.Common.{◌≡◌, true, not, take}
use Rattle.std.specs.List.{list_all}
use Rattle.hu_closed.specs.Keys.{are_among}
use Rattle.hu_closed.proofs.found.Found.held.Given as goal

abbrev pub invariant-loop-index : goal.invariant-loop-index
invariant-loop-index l = list_all (λ items. not (are_among items l.key)) (take l.index l.self) ≡ true
