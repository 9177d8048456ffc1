use Rattle.std.proofs.Common.{◌++◌, subst}
use Rattle.hu_io.specs.State.{Broke}
use Rattle.hu_io.proofs.lemmas.PutLemmas.{PutsAll-from_err}
use Rattle.hu_report.proofs.lemmas.PageLemmas.{PutsAll-flush}
use Rattle.hu_run.specs.ShelfEnding.{changes_line}
use Rattle.hu_run.proofs.shelf.line.write_changes.Goals as goal

pub returns-in_err-push_changes : goal.returns-in_err-push_changes
returns-in_err-push_changes g c =
    let old = g.S.Sink.state c.args.sink.now in
    let new = g.S.Sink.state c.push_changes.new.sink in
    PutsAll-from_err c.from_residual.result c.from_residual.ensures.0
    (subst (Broke old new) (λ i. c.new-page.ensures i ++ changes_line c.args.changes) c.in_err-push_changes.ensures)

pub returns : goal.returns
returns g c =
    PutsAll-flush _ c.flush.result c.in_ok-push_changes.ensures c.flush.ensures.puts (λ i. c.new-page.ensures i ++ changes_line c.args.changes)
