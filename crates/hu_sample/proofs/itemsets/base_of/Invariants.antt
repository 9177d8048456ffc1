use Rattle.std.proofs.Common.{◌≡◌, take, map}
use Rattle.hu_sample.proofs.itemsets.base_of.Given as goal

abbrev pub invariant-records : goal.invariant-records
invariant-records l = l.base ≡ (0, map (λ pairs. pairs.now) (take l.pairs-index l.records))
