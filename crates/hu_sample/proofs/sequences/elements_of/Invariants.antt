use Rattle.std.proofs.Common.{◌≡◌, take, map}
use Rattle.hu_sample.proofs.sequences.elements_of.Given as goal

abbrev pub invariant-itemsets : goal.invariant-itemsets
invariant-itemsets l = l.elements.items ≡ map (λ pairs. pairs.now) (take l.pairs-index l.itemsets)
