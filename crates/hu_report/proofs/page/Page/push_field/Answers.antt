use Rattle.std.proofs.Common.{rules}
use Rattle.std.proofs.lemmas.Int.{to_z-of_z}
use Rattle.hu_report.proofs.lemmas.PageLemmas.{Passes-append}
use Rattle.hu_report.proofs.page.Page.push_field.Goals as goal

pub returns : goal.returns
returns g c = Passes-append _ _ _ c.push_number.result c.in_ok-push.ensures c.push_number.ensures (search (rules, to_z-of_z))
