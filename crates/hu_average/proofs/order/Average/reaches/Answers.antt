use Rattle.std.proofs.Common.{◌∙◌, ◌<ℤ◌, ap, pos, int_le, arith, rules, SFits}
use Rattle.std.specs.Int.{w128}
use Rattle.std.specs.Int.RustNames.{int_div}
use Rattle.std.proofs.lemmas.Int.{ints, to_z-of_z, quot_is, quot_fits}
use Rattle.hu_average.proofs.Quotients.{quot-reaches}
use Rattle.hu_average.proofs.order.Average.reaches.Goals as goal

pub returns : goal.returns
returns c =
    let utility = c.args.self.utility in
    let within : SFits w128 utility = search rules in
    let fits : SFits w128 c.from.result = record { sfits = c.from.type_inv } in
    let some : pos 0 <ℤ c.from.result = omega (arith, ints, c.from.ensures, c.requires.some) in
    let least = to_z-of_z w128 c.args.least c.ranges.least in
    let quotient = quot_is w128 utility c.from.result within fits (quot_fits w128 utility c.from.result within some) in
    (λ j. int_le (least j) (quotient j)) ∙ ap (λ d. int_le c.args.least (int_div utility d)) c.from.ensures
    ∙ quot-reaches utility c.args.least c.args.self.count c.requires.some c.requires.least
