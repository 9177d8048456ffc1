use Rattle.std.proofs.Common.{◌≡◌, ◌∙◌, ◌<◌, ◌++◌, pos, ◌+ℤ◌, ◌≤ℤ◌, ◌<ℤ◌, ◌^◌, length, ap, sym, subst, rules, arith, FitsSigned, to_z, of_z}
use Rattle.std.specs.Int.{w128}
use Rattle.std.proofs.lemmas.Int.{to_z-of_z}
use Rattle.std.proofs.lemmas.List.{get_or_default}
use Rattle.hu_raise.specs.Sums.{first_rank, sum_at}
use Rattle.hu_raise.proofs.SumLemmas.{AreSums-set, sum-fits}
use Rattle.hu_raise.proofs.sums.Sums.add.Goals as goal

pub invariant_of-self-2 : goal.invariant_of-self-2
invariant_of-self-2 c =
    let sums = c.self.inside.sums.items in
    let touched = c.self.inside.touched.items in
    let rank = c.args.rank in
    let gain = c.args.gain in
    let value = c.index-sum.result.now in
    let within : rank < length sums = omega (arith, c.requires.within, ap length c.self.view_is) in
    let least : pos 0 ≤ℤ gain = c.requires.least in
    let fits : FitsSigned w128 value = search rules in
    let old : to_z w128 (of_z w128 value) ≡ sum_at sums rank = to_z-of_z w128 value fits ∙ c.index-sum.ensures
    ∙ get_or_default sums rank value (pos 0) within in
    let more = to_z-of_z w128 gain c.ranges.gain in
    let low : pos 0 ≤ℤ sum_at sums rank = c.self.invariant.least rank in
    let same = ap (λ all. sum_at all rank) c.self.view_is in
    let high : (sum_at sums rank +ℤ gain) <ℤ pos (2 ^ 127) = subst (λ s. (s +ℤ gain) <ℤ pos (2 ^ 127)) (sym same) c.requires.fits in
    let sum_fits : FitsSigned w128 (sum_at sums rank +ℤ gain) = sum-fits (sum_at sums rank) gain low least high in
    let sum : to_z w128 (of_z w128 (to_z w128 (of_z w128 value) +ℤ to_z w128 (of_z w128 gain))) ≡ sum_at sums rank +ℤ gain =
    ap (λ s. to_z w128 (of_z w128 s)) (λ j. old j +ℤ more j) ∙ to_z-of_z w128 (sum_at sums rank +ℤ gain) sum_fits in
    let listed = c.in_ok-list_first.ensures.ok ∙ (λ j. touched ++ first_rank rank (old j) (more j)) in
    AreSums-set sums touched c.list_first.new.touched.items rank gain _ c.self.invariant within least sum listed
