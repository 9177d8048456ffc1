use Rattle.std.proofs.Common.{◌≡◌, take, map}
use Rattle.hu_sample.proofs.sequences.sequences_of.Given as goal

abbrev pub invariant-records : goal.invariant-records
invariant-records l = l.base ≡ (0, map (λ itemsets. map (λ pairs. pairs.now) itemsets.now) (take l.itemsets-index l.records))
