use Rattle.std.proofs.Common.{◌≡◌, false, take}
use Rattle.std.specs.List.{list_any}
use Rattle.hu_closed.specs.Keys.{is_outside}
use Rattle.hu_closed.specs.Holders.{lists_of}
use Rattle.hu_closed.proofs.candidates.any_outside.Given as goal

abbrev pub invariant-loop-items : goal.invariant-loop-items
invariant-loop-items l = list_any (list_any (is_outside l.key)) (lists_of (take l.items-index l.lists)) ≡ false
