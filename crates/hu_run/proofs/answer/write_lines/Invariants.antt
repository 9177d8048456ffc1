use Rattle.std.proofs.Common.{take}
use Rattle.std.specs.Prelude.{flat_map}
use Rattle.hu_io.specs.State.{Appended}
use Rattle.hu_run.specs.Answer.{line_text}
use Rattle.hu_run.proofs.answer.write_lines.Given as goal

-- the lines so far were appended
abbrev pub invariant-loop-line : goal.invariant-loop-line
invariant-loop-line g l =
    Appended (g.S.Sink.state l.initial.sink) (g.S.Sink.state l.sink) (flat_map line_text (take l.line-index l.lines))
