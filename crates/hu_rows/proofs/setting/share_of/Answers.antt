use Rattle.std.proofs.Common.{◌≡◌, ◌∙◌, ◌+ℤ◌, to_z, of_z, ap, arith}
use Rattle.std.specs.Int.{w128}
use Rattle.std.proofs.lemmas.Int.{ints}
use Rattle.hu_kind.specs.Record.{positive_part}
use Rattle.hu_kind.proofs.lemmas.Earned.{positive_part-within}
use Rattle.hu_rows.proofs.SettingLemmas.{same-fit}
use Rattle.hu_rows.proofs.setting.share_of.Goals as goal

pub returns : goal.returns
returns c =
    let before = same-fit c.args.before (omega (arith, c.requires)) in
    let value = same-fit c.args.value (omega (arith, c.requires)) in
    let rest = same-fit c.args.rest (omega (arith, c.requires)) in
    let two : to_z w128 (of_z w128 (to_z w128 (of_z w128 c.args.before) +ℤ to_z w128 (of_z w128 c.args.value))) ≡ c.args.before +ℤ c.args.value =
    ap (λ z. to_z w128 (of_z w128 z)) (λ j. before j +ℤ value j) ∙ same-fit (c.args.before +ℤ c.args.value) (omega (arith, ints, c.requires)) in
    let three = same-fit (c.args.before +ℤ c.args.value +ℤ c.args.rest) (omega (arith, ints, c.requires)) in
    let share = c.positive_part.ensures.value ∙ ap positive_part (ap (λ z. to_z w128 (of_z w128 z)) (λ j. two j +ℤ rest j) ∙ three) in
    ap (λ z. to_z w128 (of_z w128 z)) share ∙ same-fit (positive_part (c.args.before +ℤ c.args.value +ℤ c.args.rest))
    (omega (arith, ints, positive_part-within (c.args.before +ℤ c.args.value +ℤ c.args.rest), c.requires))
