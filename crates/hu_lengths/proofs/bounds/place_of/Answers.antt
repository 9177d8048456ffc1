use Rattle.std.proofs.Common.{◌≡◌, ap, ◌∙◌, length, unwrap_or, int_lt, to_z, of_z}
use Rattle.std.specs.Int.{w128}
use Rattle.std.specs.List.{position}
use Rattle.std.proofs.lemmas.Int.{to_z-of_z}
use Rattle.hu_lengths.proofs.bounds.place_of.Goals as goal
use Rattle.hu_list.proofs.lemmas.Positions.{unwrap_or-position}

pub returns-clause-value : goal.returns-clause-value
returns-clause-value c =
    let values = c.args.values.now in
    let same : to_z w128 (of_z w128 c.args.value) ≡ c.args.value = to_z-of_z w128 c.args.value c.ranges.value in
    c.unwrap_or.ensures ∙ ap (λ o. unwrap_or o (length values)) (c.first_below.ensures ∙ ap (λ v. position (λ other. int_lt other v) values) same)
    ∙ unwrap_or-position (λ other. int_lt other c.args.value) values
