use Rattle.std.proofs.Common.{◌≡◌, ◌∷◌, rules}
use Rattle.std.proofs.lemmas.Int.{to_z-of_z}
use Rattle.hu_report.specs.Text.{spaced_text}
use Rattle.hu_report.proofs.lemmas.PageLemmas.{Passes-append, Passes-longer}
use Rattle.hu_report.proofs.text.push_key.Goals as goal

pub returns-in_err-push_number : goal.returns-in_err-push_number
returns-in_err-push_number g c =
    let whole : c.args.numbers.now ≡ c.in-Some.first.now ∷ c.in-Some.others.now = search rules in
    Passes-longer _ _ _ (spaced_text c.in-Some.others.now) c.from_residual.result c.from_residual.ensures.0
    c.in_err-push_number.ensures (rw whole (search (rules, to_z-of_z)))

pub returns : goal.returns
returns g c =
    let whole : c.args.numbers.now ≡ c.in-Some.first.now ∷ c.in-Some.others.now = search rules in
    Passes-append _ _ _ c.push_spaced.result c.in_ok-push_number.ensures c.push_spaced.ensures (rw whole (search (rules, to_z-of_z)))
