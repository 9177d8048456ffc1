use Rattle.std.proofs.Common.{◌+◌, ◌≤◌, length, refl, arith}
use Rattle.hu_lines.proofs.lemmas.HeldLemmas.{kept_within, held_empty}
use Rattle.hu_lines.proofs.lines.Lines.start_line.Goals as goal

pub invariant_of-self : goal.invariant_of-self
invariant_of-self c =
    let inside = c.self.inside in
    let numbered : c.args.number ≤ (inside.before + length inside.bytes.items) + 1 = rw (← c.self.view_is) at c.requires in
    record {
      held = held_empty _ c.clear.ensures.items refl (omega (arith, kept_within inside c.self.invariant)) (omega arith);
      room = omega arith;
    }

pub returns-clause-held : goal.returns-clause-held
returns-clause-held c = (invariant_of-self c).held
