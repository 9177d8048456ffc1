use Rattle.std.proofs.Common.{ap, subst, ◌∙◌}
use Rattle.std.proofs.lemmas.Result.{err_from_is_err_and}
use Rattle.hu_io.specs.State.{Appended, Broke}
use Rattle.hu_kept.specs.Kept.{answer_of}
use Rattle.hu_report.specs.Text.{answer_text}
use Rattle.hu_run.specs.ShelfEnding.{task_of}
use Rattle.hu_run.proofs.ShelfLemmas.{shown, unshown}
use Rattle.hu_run.proofs.shelf.jobs.show.Goals as goal

pub returns-in_err-shelf-clause-ends : goal.returns-in_err-shelf-clause-ends
returns-in_err-shelf-clause-ends g c = λ files.
    let p = err_from_is_err_and c.from_residual.result c.from_residual.ensures.1 in
    rw (p.1, p.2) (unshown c.args.name.now files (g.O.Sink.state c.args.out.now) (g.K.Keeper.state c.args.keeper.now)
    (g.K.Keeper.state c.find.new.keeper) c.in_err-shelf.field-0.0 c.in_err-shelf.ensures.err)

pub returns-in_err-write_entries-clause-ends : goal.returns-in_err-write_entries-clause-ends
returns-in_err-write_entries-clause-ends g c = λ files.
    let out = g.O.Sink.state c.args.out.now in
    let out_after = g.O.Sink.state c.write_entries.new.sink in
    let s = c.in_ok-shelf.shelf in
    let entries = c.deref.ensures.value ∙ c.in_ok-entries.ensures in
    let task = c.task_of.ensures ∙ ap task_of c.closed.ensures in
    let wrote = subst (λ t. Broke out out_after (answer_text t (answer_of s))) task
    (subst (λ es. Broke out out_after (answer_text c.task_of.result es)) entries c.in_err-write_entries.ensures.puts) in
    let p = err_from_is_err_and c.from_residual-in_err-write_entries.result c.from_residual-in_err-write_entries.ensures.1 in
    rw (p.1, p.2) (shown c.args.name.now s files out out_after (g.K.Keeper.state c.args.keeper.now) (g.K.Keeper.state c.find.new.keeper)
    (Broke out out_after) c.in_ok-shelf.ensures.store c.in_ok-shelf.ensures.told c.in_ok-shelf.ensures.same wrote)

pub returns-clause-ends : goal.returns-clause-ends
returns-clause-ends g c = λ files.
    let out = g.O.Sink.state c.args.out.now in
    let out_after = g.O.Sink.state c.write_entries.new.sink in
    let s = c.in_ok-shelf.shelf in
    let entries = c.deref.ensures.value ∙ c.in_ok-entries.ensures in
    let task = c.task_of.ensures ∙ ap task_of c.closed.ensures in
    let wrote = subst (λ t. Appended out out_after (answer_text t (answer_of s))) task
    (subst (λ es. Appended out out_after (answer_text c.task_of.result es)) entries c.in_ok-write_entries.ensures.puts) in
    shown c.args.name.now s files out out_after (g.K.Keeper.state c.args.keeper.now) (g.K.Keeper.state c.find.new.keeper)
    (Appended out out_after) c.in_ok-shelf.ensures.store c.in_ok-shelf.ensures.told c.in_ok-shelf.ensures.same wrote
