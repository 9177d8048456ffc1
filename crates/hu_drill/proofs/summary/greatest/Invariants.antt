use Rattle.std.proofs.Common.{◌≡◌, take}
use Rattle.hu_drill.specs.Summary.{greatest}
use Rattle.hu_drill.proofs.summary.greatest.Given as goal

-- the greatest of the entries so far
abbrev pub invariant-loop-entry : goal.invariant-loop-entry
invariant-loop-entry l = l.greatest ≡ greatest (take l.entry-index l.entries)
