use Rattle.hu_shelf.proofs.RecordLemmas.{read_on, read_stops}
use Rattle.hu_shelf.proofs.records.read_records.Goals as goal

pub lines-preserved : goal.lines-preserved
lines-preserved c =
    read_on c.args.text.now c.cut.result.0.now c.cut.result.1.now c.lines.rest.now c.lines.base c.add_line.new.base c.in_ok-add_line.field-0
    c.lines.invariant c.cut.ensures.before c.cut.ensures.after c.in_ok-add_line.ensures c.if-not-branch.false

pub returns-then-not-branch-clause-large : goal.returns-then-not-branch-clause-large
returns-then-not-branch-clause-large c =
    read_stops c.args.text.now c.cut.result.0.now c.lines.rest.now c.lines.base c.add_line.new.base c.in_ok-add_line.field-0
    c.lines.invariant c.cut.ensures.before c.in_ok-add_line.ensures c.if-not-branch.true
