use Rattle.std.proofs.Common.{◌≡◌, ℤ, ◌+ℤ◌, ◌+◌, ◌<◌, ◌^◌, unsigned_abs, to_z, of_z, ap, ◌∙◌, arith}
use Rattle.std.specs.Int.{w128}
use Rattle.std.proofs.lemmas.Int.{ints}
use Rattle.hu_kind.specs.Record.{positive_part}
use Rattle.hu_kind.proofs.lemmas.Earned.{positive_part-within}
use Rattle.hu_list.proofs.sums.Sum.with.Goals as goal

-- a sum with what two values come to, where that is above 0
added : (bound part own rest : ℤ) → unsigned_abs bound + (unsigned_abs own + unsigned_abs rest) < 2 ^ 127 → part ≡ positive_part (own +ℤ rest)
    → to_z w128 (of_z w128 (to_z w128 (of_z w128 bound) +ℤ to_z w128 (of_z w128 part))) ≡ bound +ℤ positive_part (own +ℤ rest)
added bound part own rest fits is = omega (arith, ints, positive_part-within (own +ℤ rest))

pub returns : goal.returns
returns c =
    let sum = c.args.self.now in
    let own = c.args.own in
    let rest = c.args.rest in
    let both : to_z w128 (of_z w128 (to_z w128 (of_z w128 own) +ℤ to_z w128 (of_z w128 rest))) ≡ own +ℤ rest = omega (arith, ints, c.requires.bound) in
    let most : c.positive_part.result ≡ positive_part (own +ℤ rest) = c.positive_part.ensures.value ∙ ap positive_part both in
    let utility : to_z w128 (of_z w128 (to_z w128 (of_z w128 sum.utility) +ℤ to_z w128 (of_z w128 own)))
    ≡ sum.utility +ℤ own = omega (arith, ints, c.requires.utility) in
    let bound = added sum.bound c.positive_part.result own rest c.requires.bound most in
    λ j. record { support = sum.support + 1; utility = utility j; bound = bound j }
