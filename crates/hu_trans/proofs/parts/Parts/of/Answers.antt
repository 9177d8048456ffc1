use Rattle.std.proofs.Common.{◌∷◌, ◌∙◌, ap}
use Rattle.hu_trans.proofs.LineLemmas.{four_parts}
use Rattle.hu_trans.proofs.parts.Parts.of.Goals as goal

pub returns-in-Some-clause-other : goal.returns-in-Some-clause-other
returns-in-Some-clause-other c =
    let after_total = ap (λ more. c.in_ok-total.total.now ∷ more) c.in-Some.ensures.found in
    let after_items = ap (λ more. c.in_ok-items.items.now ∷ more) (c.in_ok-total.ensures.found ∙ after_total) in
    four_parts c.args.line.now c.in_ok-items.items.now c.in_ok-total.total.now c.in-Some.field-0.0.now
    c.in-Some.field-0.1.now (c.in_ok-items.ensures.found ∙ after_items)
