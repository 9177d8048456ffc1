use Rattle.std.proofs.Common.{refl, arith}
use Rattle.hu_lines.proofs.lemmas.HeldLemmas.{held_empty}
use Rattle.hu_lines.proofs.lines.Lines.new.Goals as goal

pub invariant_of-result : goal.invariant_of-result
invariant_of-result c = record {
  held = held_empty _ c.in_ok-with_capacity.ensures.items refl (omega arith) (omega arith);
  room = omega (arith, c.in_ok-with_capacity.ensures.exact);
}

pub returns-clause-held : goal.returns-clause-held
returns-clause-held c = (invariant_of-result c).held
