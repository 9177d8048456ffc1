use Rattle.std.proofs.Common.{refl}
use Rattle.hu_input.specs.Names.{texts_of}
use Rattle.hu_run.specs.Run.{streams}
use Rattle.hu_run.proofs.ShelfEndLemmas.{finished, stopped}
use Rattle.hu_run.proofs.shelf.run_all.Goals as goal

pub returns-in-Ok-clause-shelf : goal.returns-in-Ok-clause-shelf
returns-in-Ok-clause-shelf g c = λ shelf.
    let err = g.E.Sink.state c.args.err.now in
    let s = streams (texts_of c.args.words.now) (g.F.Files.state c.args.files.now) (g.F.Files.state c.attempt.new.files)
    (g.O.Sink.state c.args.out.now) (g.O.Sink.state c.attempt.new.out) err err in
    finished s (g.K.Keeper.state c.args.keeper.now) (g.K.Keeper.state c.attempt.new.keeper) c.in-Ok.ensures.ends refl

pub returns-in-Err-clause-shelf : goal.returns-in-Err-clause-shelf
returns-in-Err-clause-shelf g c = λ shelf.
    let s = streams (texts_of c.args.words.now) (g.F.Files.state c.args.files.now) (g.F.Files.state c.attempt.new.files)
    (g.O.Sink.state c.args.out.now) (g.O.Sink.state c.attempt.new.out) (g.E.Sink.state c.args.err.now) (g.E.Sink.state c.tell.new.err) in
    rw c.status.ensures (stopped s (g.K.Keeper.state c.args.keeper.now) (g.K.Keeper.state c.attempt.new.keeper) c.in-Err.stop c.in-Err.ensures.ends
    c.tell.ensures)
