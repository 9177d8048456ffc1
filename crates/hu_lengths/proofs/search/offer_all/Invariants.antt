use Rattle.hu_lengths.proofs.OfferLemmas.{IsPart}
use Rattle.hu_lengths.proofs.search.offer_all.Given as goal

abbrev pub invariant-loop-entry : goal.invariant-loop-entry
invariant-loop-entry g l = IsPart (g.C.Collect.state l.fn.collect) (g.C.Collect.state l.collect) l.fn.entries.items l.entry-iterator.rest.items
