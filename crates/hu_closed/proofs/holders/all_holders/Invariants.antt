use Rattle.std.proofs.Common.{take}
use Rattle.hu_closed.specs.Holders.{lists_of, pairs_from, AreHolders}
use Rattle.hu_closed.proofs.holders.all_holders.Given as goal

abbrev pub invariant-loop-place : goal.invariant-loop-place
invariant-loop-place l = AreHolders l.places (pairs_from 0 (lists_of (take l.place l.lists)))
