use Rattle.std.proofs.Common.{arith}
use Rattle.hu_lines.proofs.lemmas.HeldLemmas.{held_within}
use Rattle.hu_input.proofs.intake.Intake.read_file.Goals as goal

pub overflow_add-at : goal.overflow_add-at
overflow_add-at g c =
    omega (
      arith,
      held_within c.read_piece.new.self.lines c.in_ok-count.ensures.opened.held,
      c.in_ok-count.ensures.count,
      c.loop-count.invariant.count,
    )

pub loop-count-smaller : goal.loop-count-smaller
loop-count-smaller g c =
    omega (
      arith,
      held_within c.read_piece.new.self.lines c.in_ok-count.ensures.opened.held,
      c.in_ok-count.ensures.count,
      c.if-count-eq0.false,
    )
