use Rattle.std.proofs.Common.{subst}
use Rattle.hu_shelf.specs.Shelf.{IsFaultOf, Refuses, find_fault}
use Rattle.hu_run.proofs.ShelfLemmas.{find_no_sum}
use Rattle.hu_run.proofs.shelf.jobs.find.Goals as goal

pub stop_of-requires : goal.stop_of-requires
stop_of-requires g c = λ before added is.
    let old = g.K.Keeper.state c.args.keeper.now in
    let new = g.K.Keeper.state c.find.new.keeper in
    let name = c.args.name.now in
    find_no_sum old new name before added (subst (Refuses old new name (IsFaultOf old name find_fault)) is c.in-Err.ensures.err)
