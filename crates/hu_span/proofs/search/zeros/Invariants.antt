use Rattle.std.proofs.Common.{◌≡◌, length}
use Rattle.hu_span.proofs.search.zeros.Given as goal

abbrev pub invariant-zeros : goal.invariant-zeros
invariant-zeros l = length l.zeros.items ≡ l._number
