use Rattle.std.proofs.Common.{[], take}
use Rattle.hu_report.specs.Page.{Forwards}
use Rattle.hu_average.specs.Text.{average_text}
use Rattle.hu_average.proofs.text.write_averages.Given as goal

-- the lines so far went out or wait
abbrev pub invariant-loop-entry : goal.invariant-loop-entry
invariant-loop-entry g l = Forwards (g.S.Sink.state l.initial.sink) (g.S.Sink.state l.sink) [] l.page (average_text (take l.entry-index l.entries))
