use Rattle.std.proofs.Common.{rules}
use Rattle.std.proofs.lemmas.Int.{to_z-of_z}
use Rattle.hu_report.proofs.lemmas.PageLemmas.{Passes-append}
use Rattle.hu_report.proofs.text.push_item_line.Goals as goal

pub returns : goal.returns
returns g c = Passes-append _ _ _ c.push_utility.result c.in_ok-push_key.ensures c.push_utility.ensures (search (rules, to_z-of_z))
