use Rattle.hu_lines.specs.Held.{state_of}
use Rattle.hu_lines.proofs.lemmas.HeldLemmas.{held_short}
use Rattle.hu_lines.proofs.lines.Lines.line.Goals as goal

pub returns-clause-short : goal.returns-clause-short
returns-clause-short c =
    let short = held_short (state_of c.self.inside) c.self.invariant.held in
    rw (c.without_last-2.ensures, c.without_last.ensures, c.deref.ensures.value) short
