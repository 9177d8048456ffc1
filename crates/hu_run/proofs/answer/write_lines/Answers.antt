use Rattle.std.proofs.Common.{◌+◌, drop, subst}
use Rattle.std.specs.Prelude.{flat_map}
use Rattle.hu_io.specs.State.{Broke}
use Rattle.hu_io.proofs.lemmas.PutLemmas.{Broke-append, Broke-longer, PutsAll-from_err}
use Rattle.hu_run.specs.Answer.{line_text}
use Rattle.hu_run.proofs.answer.write_lines.Goals as goal
use Rattle.hu_input.proofs.lemmas.Parts.{flat_map-split}

pub returns-in_err-write_summary : goal.returns-in_err-write_summary
returns-in_err-write_summary g c =
    let lines = c.args.lines.now in
    let i = c.loop-line.line-index in
    PutsAll-from_err c.from_residual.result c.from_residual.ensures.0
    (subst (Broke (g.S.Sink.state c.args.sink.now) (g.S.Sink.state c.write_summary.new.sink)) (flat_map-split line_text lines i _ c.loop-line-test.true)
    (Broke-append c.loop-line.invariant (Broke-longer (flat_map line_text (drop (i + 1) lines)) c.in_err-write_summary.ensures)))
