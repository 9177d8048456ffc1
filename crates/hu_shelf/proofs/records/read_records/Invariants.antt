use Rattle.std.proofs.Common.{length}
use Rattle.hu_shelf.proofs.RecordLemmas.{ReadSoFar}
use Rattle.hu_shelf.proofs.records.read_records.Given as goal

abbrev pub invariant-lines : goal.invariant-lines
invariant-lines l = ReadSoFar l.text l.base l.rest

abbrev pub decreases-lines : goal.decreases-lines
decreases-lines l = length l.rest
