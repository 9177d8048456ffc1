use Rattle.hu_io.proofs.AnswerLemmas.{Puts-answered, Counts-answered}
use Rattle.hu_io.proofs.stream_sink.StreamSinkSink.put.Goals as goal

pub returns-clause-puts : goal.returns-clause-puts
returns-clause-puts g c =
    rw (← c.self.view_is)
    (Puts-answered c.write_on.result c.answer.result c.self.inside.faults _ c.args.piece.now c.answer.ensures c.write_on.ensures.within c.write_on.ensures.some)

pub returns-clause-counts : goal.returns-clause-counts
returns-clause-counts g c = rw (← c.self.view_is) (Counts-answered c.write_on.result c.answer.result c.self.inside.faults _ c.answer.ensures)
