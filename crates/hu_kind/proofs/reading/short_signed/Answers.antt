use Rattle.std.proofs.Common.{◌≡◌, ◌+◌, pos, neg_ℤ, slice_index, subst, sym, ◌∙◌, ◌-ℤ◌, ◌<◌, ◌^◌, arith, rules, FitsSigned, to_z, of_z}
use Rattle.std.specs.Int.{w128}
use Rattle.std.proofs.lemmas.Bool.Decides.{nat_tests}
use Rattle.std.proofs.lemmas.Int.{ints, to_z-of_z, fits_signed_from_abs}
use Rattle.hu_kind.specs.Number.{signed_number}
use Rattle.hu_kind.specs.Reading.{BeginsWith}
use Rattle.hu_kind.proofs.ReadLemmas.{BeginsWith-minus}
use Rattle.hu_kind.proofs.reading.short_signed.Goals as goal

pub returns-in_ok-value : goal.returns-in_ok-value
returns-in_ok-value c =
    let minus : slice_index c.args.text.now 0 ≡ 45 = grind (arith, nat_tests) in
    let n = c.in_ok-value.value in
    let fits : FitsSigned w128 c.from.result = search rules in
    let from = to_z-of_z w128 c.from.result fits ∙ c.from.ensures in
    let negated : (pos 0 -ℤ pos n) ≡ neg_ℤ (pos n) = omega (arith, ints) in
    let small : n < 2 ^ 127 = rw c.from.ensures at c.from.type_inv in
    let fits' : FitsSigned w128 (pos 0 -ℤ pos n) = fits_signed_from_abs w128 (pos 0 -ℤ pos n) (omega (arith, ints)) in
    let same = (λ j. to_z w128 (of_z w128 (pos 0 -ℤ from j))) ∙ to_z-of_z w128 (pos 0 -ℤ pos n) fits' ∙ negated in
    subst (λ value. BeginsWith signed_number c.args.text.now value (c.in_ok-value.count + 1)) (sym same)
    (BeginsWith-minus c.args.text.now n c.in_ok-value.count minus c.in_ok-value.ensures)
