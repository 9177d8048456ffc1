use Rattle.std.proofs.Common.{◌++◌, rules, append_assoc}
use Rattle.std.proofs.lemmas.Int.{to_z-of_z}
use Rattle.hu_report.proofs.lemmas.PageLemmas.{Broke-forwarded, Forwards-append, Passes-append, Passes-longer}
use Rattle.hu_run.specs.ShelfEnding.{changed_text, dropped_text}
use Rattle.hu_run.proofs.shelf.line.push_changes.Goals as goal

pub returns-in_err-push_field : goal.returns-in_err-push_field
returns-in_err-push_field g c =
    let a = c.args.changes in
    Passes-longer _ _ _ (changed_text a.changed ++ dropped_text a.dropped) c.from_residual.result c.from_residual.ensures.0 c.in_err-push_field.ensures
    (search (rules, to_z-of_z, append_assoc))

pub returns-in_err-push_field-2 : goal.returns-in_err-push_field-2
returns-in_err-push_field-2 g c =
    Passes-longer _ _ _ (dropped_text c.args.changes.dropped) c.from_residual-in_err-push_field-2.result
    c.from_residual-in_err-push_field-2.ensures.0
    (Broke-forwarded _ c.in_ok-push_field.ensures c.in_err-push_field-2.ensures) (search (rules, to_z-of_z, append_assoc))

pub returns : goal.returns
returns g c =
    Passes-append _ _ _ c.push_dropped.result (Forwards-append c.in_ok-push_field.ensures c.in_ok-push_field-2.ensures) c.push_dropped.ensures
    (search (rules, to_z-of_z, append_assoc))
