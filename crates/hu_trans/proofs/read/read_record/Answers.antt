use Rattle.hu_trans.proofs.ReadingLemmas.{reading-memory}
use Rattle.hu_trans.proofs.read.read_record.Goals as goal

pub returns-in_err-read_items-clause-never_memory : goal.returns-in_err-read_items-clause-never_memory
returns-in_err-read_items-clause-never_memory c = reading-memory c.args.line.now

pub returns-in_err-reserve-clause-never_memory : goal.returns-in_err-reserve-clause-never_memory
returns-in_err-reserve-clause-never_memory c = reading-memory c.args.line.now

pub returns-in_err-read_utilities-clause-never_memory : goal.returns-in_err-read_utilities-clause-never_memory
returns-in_err-read_utilities-clause-never_memory c = reading-memory c.args.line.now

pub returns-clause-never_memory : goal.returns-clause-never_memory
returns-clause-never_memory c = reading-memory c.args.line.now
