use Rattle.std.proofs.Common.{sym, subst}
use Rattle.hu_input.specs.Part.{Tells}
use Rattle.hu_run.specs.ShelfStop.{shelf_stop_line}
use Rattle.hu_run.proofs.shelf.stop.ShelfStop.tell.Goals as goal

pub returns-in-StoreFailed : goal.returns-in-StoreFailed
returns-in-StoreFailed g c =
    subst (λ stop. Tells (g.E.Sink.state c.args.err.now) (g.E.Sink.state c.tell-in-StoreFailed.new.err) (shelf_stop_line stop)) (sym c.in-StoreFailed.is)
    c.tell-in-StoreFailed.ensures
