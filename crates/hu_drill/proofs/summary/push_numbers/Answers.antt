use Rattle.std.proofs.Common.{◌++◌, rules, append_assoc}
use Rattle.std.proofs.lemmas.Int.{to_z-of_z}
use Rattle.hu_report.proofs.lemmas.PageLemmas.{Broke-forwarded, Forwards-append, Passes-append, Passes-longer}
use Rattle.hu_drill.specs.Summary.{greatest_text, total_text}
use Rattle.hu_drill.proofs.summary.push_numbers.Goals as goal

pub returns-in_err-push_field : goal.returns-in_err-push_field
returns-in_err-push_field g c =
    let s = c.args.summary.now in
    Passes-longer _ _ _ (greatest_text s ++ total_text s) c.from_residual.result c.from_residual.ensures.0 c.in_err-push_field.ensures
    (search (rules, to_z-of_z, append_assoc))

pub returns-in_err-push_field-2 : goal.returns-in_err-push_field-2
returns-in_err-push_field-2 g c =
    Passes-longer _ _ _ (total_text c.args.summary.now) c.from_residual-in_err-push_field-2.result c.from_residual-in_err-push_field-2.ensures.0
    (Broke-forwarded _ c.in_ok-push_field.ensures c.in_err-push_field-2.ensures) (search (rules, to_z-of_z, append_assoc))

pub returns : goal.returns
returns g c =
    Passes-append _ _ _ c.push_total.result (Forwards-append c.in_ok-push_field.ensures c.in_ok-push_field-2.ensures) c.push_total.ensures
    (search (rules, to_z-of_z, append_assoc))
