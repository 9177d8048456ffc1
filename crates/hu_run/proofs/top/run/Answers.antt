use Rattle.std.proofs.Common.{refl}
use Rattle.hu_input.specs.Names.{texts_of}
use Rattle.hu_run.specs.Run.{streams}
use Rattle.hu_run.proofs.EndLemmas.{finished, stopped}
use Rattle.hu_run.proofs.top.run.Goals as goal

pub returns-in-Ok-clause-runs : goal.returns-in-Ok-clause-runs
returns-in-Ok-clause-runs g c =
    let err = g.E.Sink.state c.args.err.now in
    let files = g.F.Files.state c.attempt.new.files in
    let out = g.O.Sink.state c.attempt.new.out in
    finished (streams (texts_of c.args.words.now) (g.F.Files.state c.args.files.now) files (g.O.Sink.state c.args.out.now) out err err)
    c.in-Ok.ensures.ends refl

pub returns-in-Err-clause-runs : goal.returns-in-Err-clause-runs
returns-in-Err-clause-runs g c =
    let files = g.F.Files.state c.attempt.new.files in
    let out = g.O.Sink.state c.attempt.new.out in
    let err = g.E.Sink.state c.args.err.now in
    let s = streams (texts_of c.args.words.now) (g.F.Files.state c.args.files.now) files
    (g.O.Sink.state c.args.out.now) out err (g.E.Sink.state c.tell.new.err) in
    rw c.status.ensures (stopped s c.in-Err.stop c.in-Err.ensures.ends c.tell.ensures)
