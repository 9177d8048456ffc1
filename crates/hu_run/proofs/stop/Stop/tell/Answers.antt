use Rattle.std.proofs.Common.{sym, subst}
use Rattle.hu_input.specs.Part.{Tells}
use Rattle.hu_run.specs.Stop.{stop_line}
use Rattle.hu_run.proofs.stop.Stop.tell.Goals as goal

pub returns-in-ReadFailed : goal.returns-in-ReadFailed
returns-in-ReadFailed g c =
    subst (λ stop. Tells (g.E.Sink.state c.args.err.now) (g.E.Sink.state c.tell.new.err) (stop_line stop)) (sym c.in-ReadFailed.is) c.tell.ensures

pub returns-in-WriteFailed : goal.returns-in-WriteFailed
returns-in-WriteFailed g c =
    subst (λ stop. Tells (g.E.Sink.state c.args.err.now) (g.E.Sink.state c.tell_text-in-WriteFailed.new.err) (stop_line stop)) (sym c.in-WriteFailed.is)
    c.tell_text-in-WriteFailed.ensures

pub returns-in-NoMemory : goal.returns-in-NoMemory
returns-in-NoMemory g c =
    subst (λ stop. Tells (g.E.Sink.state c.args.err.now) (g.E.Sink.state c.tell_text-in-NoMemory.new.err) (stop_line stop)) (sym c.in-NoMemory.is)
    c.tell_text-in-NoMemory.ensures

pub returns-in-TooLong : goal.returns-in-TooLong
returns-in-TooLong g c =
    subst (λ stop. Tells (g.E.Sink.state c.args.err.now) (g.E.Sink.state c.tell_text-in-TooLong.new.err) (stop_line stop)) (sym c.in-TooLong.is)
    c.tell_text-in-TooLong.ensures
