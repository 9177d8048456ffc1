use Rattle.std.proofs.Common.{◌≡◌, subst}
use Rattle.std.specs.Int.{w128}
use Rattle.std.proofs.lemmas.Int.{to_z-of_z}
use Rattle.hu_kept.specs.Kept.{fresh}
use Rattle.hu_shelf.specs.Keeper.{keeping_text}
use Rattle.hu_shelf.specs.Store.{IsStore, store_text}
use Rattle.hu_run.proofs.ShelfLemmas.{made, unmade}
use Rattle.hu_run.proofs.shelf.jobs.make.Goals as goal

pub returns-in-Ok : goal.returns-in-Ok
returns-in-Ok g c = λ files out.
    let a = c.args in
    let old = g.K.Keeper.state a.keeper.now in
    let new = g.K.Keeper.state c.create.new.keeper in
    let exact = to_z-of_z w128 a.least c.ranges.least in
    let store : IsStore (fresh a.least a.top a.closed) = subst (λ l. IsStore (fresh l a.top a.closed)) exact c.in-Ok.ensures.store in
    let put : new ≡ keeping_text a.name.now (store_text (fresh a.least a.top a.closed)) old =
    subst (λ l. new ≡ keeping_text a.name.now (store_text (fresh l a.top a.closed)) old) exact c.in-Ok.ensures.put in
    made a.name.now (fresh a.least a.top a.closed) files out old new store put c.in-Ok.ensures.free

pub returns-in-Err : goal.returns-in-Err
returns-in-Err g c = λ files out.
    unmade c.args.name.now (fresh c.args.least c.args.top c.args.closed) files out (g.K.Keeper.state c.args.keeper.now) (g.K.Keeper.state c.create.new.keeper)
    c.in-Err.fault c.stop_of.result c.in-Err.ensures.err c.stop_of.ensures
