use Rattle.hu_io.proofs.AnswerLemmas.{Gets-answered, Counts-answered}
use Rattle.hu_io.proofs.disk_files.DiskFilesFiles.get.Goals as goal

pub returns-clause-gets : goal.returns-clause-gets
returns-clause-gets g c =
    rw (← c.read-read.ensures.same, ← c.self.view_is)
    (Gets-answered c.read-read.result c.answer.result c.self.inside.faults _ c.args.name.now c.args.at c.read-read.new.into c.answer.ensures)

pub returns-clause-counts : goal.returns-clause-counts
returns-clause-counts g c =
    rw (← c.read-read.ensures.same, ← c.self.view_is)
    (Counts-answered c.read-read.result c.answer.result c.self.inside.faults _ c.answer.ensures)
