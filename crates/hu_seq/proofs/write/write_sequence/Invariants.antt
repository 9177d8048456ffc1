use Rattle.std.proofs.Common.{◌≡◌, take, flat_map}
use Rattle.hu_seq.specs.Canonical.{itemset_text}
use Rattle.hu_seq.proofs.write.write_sequence.Given as goal

abbrev pub invariant-loop-element : goal.invariant-loop-element
invariant-loop-element l = l.line.items ≡ flat_map itemset_text (take l.element-index l.element-items)
