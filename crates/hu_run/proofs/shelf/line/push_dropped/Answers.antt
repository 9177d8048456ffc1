use Rattle.std.proofs.Common.{codes, arith}
use Rattle.std.proofs.lemmas.Grind.{common_steps}
use Rattle.std.proofs.lemmas.Int.{to_z-of_z}
use Rattle.hu_report.proofs.lemmas.PageLemmas.{Passes-append, Passes-longer}
use Rattle.hu_run.proofs.shelf.line.push_dropped.Goals as goal

pub returns-in_err-push_field : goal.returns-in_err-push_field
returns-in_err-push_field g c =
    Passes-longer _ _ _ (codes "\n") c.from_residual.result c.from_residual.ensures.0 c.in_err-push_field.ensures (grind (arith, common_steps, to_z-of_z))

pub returns : goal.returns
returns g c = Passes-append _ _ _ c.push.result c.in_ok-push_field.ensures c.push.ensures (grind (arith, common_steps, to_z-of_z))
