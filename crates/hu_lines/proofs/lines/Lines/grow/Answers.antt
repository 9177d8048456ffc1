use Rattle.std.proofs.Common.{sym, ◌∙◌, arith}
use Rattle.hu_lines.proofs.lemmas.HeldLemmas.{held_grown}
use Rattle.hu_lines.proofs.lines.Lines.grow.Goals as goal

pub invariant_of-self : goal.invariant_of-self
invariant_of-self c =
    let inside = c.self.inside in
    let held = c.self.invariant.held in
    let begun = rw (← c.self.view_is) at c.requires.begun in
    let within = rw (← c.self.view_is) at c.requires.within in
    let accepted = rw (← c.self.view_is) at c.requires.accepted in
    record {
      held = held_grown _ inside.bytes.items c.args.taken.now c.in-Ok.ensures.items
          (sym held.whole ∙ begun) c.requires.one c.requires.whole within held.counted held.numbered accepted;
      room = omega (arith, c.in-Ok.ensures.capacity);
    }

pub returns-clause-held : goal.returns-clause-held
returns-clause-held c = (invariant_of-self c).held
