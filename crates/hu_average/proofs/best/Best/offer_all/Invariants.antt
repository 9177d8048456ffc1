use Rattle.hu_average.proofs.BestLemmas.{IsPart}
use Rattle.hu_average.proofs.best.Best.offer_all.Given as goal

abbrev pub invariant-loop-entry : goal.invariant-loop-entry
invariant-loop-entry l = IsPart l.fn.self l.self l.fn.entries.items l.entry-iterator.rest.items
