use Rattle.std.proofs.Common.{take}
use Rattle.hu_kept.specs.Holders.{ListsAll}
use Rattle.hu_kept.proofs.holders.all_listed.Given as goal

abbrev pub invariant-loop-place : goal.invariant-loop-place
invariant-loop-place l = ListsAll (take l.place l.records) l.places
