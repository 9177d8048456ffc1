use Rattle.std.proofs.Common.{rules}
use Rattle.std.proofs.lemmas.Int.{to_z-of_z}
use Rattle.hu_report.specs.Text.{utility_text}
use Rattle.hu_report.proofs.lemmas.PageLemmas.{Broke-forwarded, Forwards-append, Passes-append, Passes-longer}
use Rattle.hu_report.proofs.text.push_closed_line.Goals as goal

pub returns-in_err-push_field : goal.returns-in_err-push_field
returns-in_err-push_field g c =
    Passes-longer _ _ _ (utility_text c.args.entry.now.utility) c.from_residual-in_err-push_field.result c.from_residual-in_err-push_field.ensures.0
    (Broke-forwarded _ c.in_ok-push_key.ensures c.in_err-push_field.ensures) (search (rules, to_z-of_z))

pub returns : goal.returns
returns g c =
    Passes-append _ _ _ c.push_utility.result (Forwards-append c.in_ok-push_key.ensures c.in_ok-push_field.ensures)
    c.push_utility.ensures (search (rules, to_z-of_z))
