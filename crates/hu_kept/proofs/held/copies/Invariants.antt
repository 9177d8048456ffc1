use Rattle.std.proofs.Common.{◌≡◌, ◌++◌}
use Rattle.hu_kept.specs.Entries.{entries_from}
use Rattle.hu_kept.proofs.held.copies.Given as goal

abbrev pub invariant-loop-key : goal.invariant-loop-key
invariant-loop-key l = l.entries.items ++ entries_from l.key-iterator ≡ entries_from l.fn.held.entries
