use Rattle.std.proofs.Common.{sym}
use Rattle.hu_shelf.proofs.TextLemmas.{after_byte-at, after_byte-none, before_byte-at, before_byte-none}
use Rattle.hu_shelf.proofs.cut.cut.Goals as goal

pub returns-in-Some-clause-before : goal.returns-in-Some-clause-before
returns-in-Some-clause-before c = before_byte-at c.args.byte c.args.text.now c.in-Some.place (sym c.in-Some.ensures)

pub returns-in-Some-clause-after : goal.returns-in-Some-clause-after
returns-in-Some-clause-after c = after_byte-at c.args.byte c.args.text.now c.in-Some.place (sym c.in-Some.ensures)

pub returns-in-None-clause-before : goal.returns-in-None-clause-before
returns-in-None-clause-before c = before_byte-none c.args.byte c.args.text.now (sym c.in-None.ensures)

pub returns-in-None-clause-after : goal.returns-in-None-clause-after
returns-in-None-clause-after c = after_byte-none c.args.byte c.args.text.now (sym c.in-None.ensures)
