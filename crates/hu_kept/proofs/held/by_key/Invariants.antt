use Rattle.std.proofs.Common.{◌≡◌, ◌++◌}
use Rattle.hu_kept.specs.Entries.{entries_from}
use Rattle.hu_kept.proofs.held.by_key.Given as goal

abbrev pub invariant-loop-entry : goal.invariant-loop-entry
invariant-loop-entry l = entries_from l.held.entries ++ l.entry-iterator.rest.items ≡ l.fn.entries.items
