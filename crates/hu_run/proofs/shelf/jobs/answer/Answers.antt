use Rattle.std.proofs.Common.{sym, subst, rules}
use Rattle.std.specs.Int.{w128}
use Rattle.std.proofs.lemmas.Int.{to_z-of_z}
use Rattle.hu_kept.specs.Kept.{fresh}
use Rattle.hu_run.specs.ShelfJob.{make, shelving_of}
use Rattle.hu_run.specs.ShelfAttempt.{ShelfEnds, scene}
use Rattle.hu_run.proofs.shelf.jobs.answer.Goals as goal

pub returns-in-New-clause-ends : goal.returns-in-New-clause-ends
returns-in-New-clause-ends g c =
    let files = g.F.Files.state c.args.files.now in
    let out = g.O.Sink.state c.args.out.now in
    let sc = scene files files out out (g.K.Keeper.state c.args.keeper.now) (g.K.Keeper.state c.make.new.keeper) in
    let exact = to_z-of_z w128 c.in-New.least (search rules) in
    let made = subst (λ l. ShelfEnds (make c.in-New.name.now (fresh l c.in-New.top c.in-New.closed)) sc c.make.result) exact (c.make.ensures files out) in
    subst (λ job. ShelfEnds (shelving_of job) sc c.make.result) (sym c.in-New.is) made

pub returns-in-Show-clause-ends : goal.returns-in-Show-clause-ends
returns-in-Show-clause-ends g c =
    let files = g.F.Files.state c.args.files.now in
    let sc = scene files files (g.O.Sink.state c.args.out.now) (g.O.Sink.state c.show.new.out) (g.K.Keeper.state c.args.keeper.now)
    (g.K.Keeper.state c.show.new.keeper) in
    subst (λ job. ShelfEnds (shelving_of job) sc c.show.result) (sym c.in-Show.is) (c.show.ensures.ends files)
