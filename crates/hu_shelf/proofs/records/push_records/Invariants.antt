use Rattle.std.proofs.Common.{take}
use Rattle.hu_shelf.proofs.RecordLemmas.{ArePushed}
use Rattle.hu_shelf.proofs.records.push_records.Given as goal

abbrev pub invariant-loop-one : goal.invariant-loop-one
invariant-loop-one l = ArePushed l.initial.text.items l.text.items (take l.one-index l.records)
