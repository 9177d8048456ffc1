use Rattle.std.proofs.Common.{rules, length}
use Rattle.std.proofs.lemmas.Int.{to_z-of_z}
use Rattle.hu_report.proofs.lemmas.PageLemmas.{Broke-forwarded, Forwards-append, Passes-append, Passes-longer}
use Rattle.hu_average.specs.Text.{length_text}
use Rattle.hu_average.proofs.text.push_line.Goals as goal

pub returns-in_err-push_field : goal.returns-in_err-push_field
returns-in_err-push_field g c =
    Passes-longer _ _ _ (length_text (length c.args.entry.now.key)) c.from_residual-in_err-push_field.result c.from_residual-in_err-push_field.ensures.0
    (Broke-forwarded _ c.in_ok-push_key.ensures c.in_err-push_field.ensures) (search (rules, to_z-of_z))

pub returns : goal.returns
returns g c =
    Passes-append _ _ _ c.push_length.result (Forwards-append c.in_ok-push_key.ensures c.in_ok-push_field.ensures) c.push_length.ensures (search
    (rules, to_z-of_z))
