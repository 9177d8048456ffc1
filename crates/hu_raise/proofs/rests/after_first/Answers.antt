use Rattle.std.proofs.Common.{◌-◌, length, drop, FitsSigned, arith, rules}
use Rattle.std.specs.Int.{w128}
use Rattle.std.proofs.lemmas.Int.{to_z-of_z}
use Rattle.std.proofs.lemmas.List.{take_all, length-drop}
use Rattle.hu_raise.proofs.rests.after_first.Goals as goal

pub returns : goal.returns
returns c =
    let ranks = c.args.rest.ranks.now in
    let gain = c.args.rest.gain in
    let fits : FitsSigned w128 gain = search rules in
    let all = take_all (length ranks - 1) (drop 1 ranks) (omega (arith, length-drop 1 ranks)) in
    (λ j. record { ranks = all j; gain = to_z-of_z w128 gain fits j })
