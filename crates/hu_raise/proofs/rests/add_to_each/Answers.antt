use Rattle.std.proofs.Common.{◌∙◌, ◌<◌, ◌+ℤ◌, ◌<ℤ◌, ◌^◌, pos, length, get_or, ap, sym, subst, arith, to_z, of_z}
use Rattle.std.specs.Int.{w128}
use Rattle.std.proofs.lemmas.Int.{to_z-of_z}
use Rattle.std.proofs.lemmas.List.{length-set}
use Rattle.hu_raise.specs.Sums.{sum_at, gain_at}
use Rattle.hu_raise.proofs.RankLists.{add-step, add-upper}
use Rattle.hu_kind.proofs.lemmas.Each.{each-get}
use Rattle.hu_raise.proofs.rests.add_to_each.Goals as goal

pub add-requires-clause-fits : goal.add-requires-clause-fits
add-requires-clause-fits c =
    let ranks = c.args.ranks.now in
    let i = c.loop-rank.rank-index in
    let here = get_or ranks i 0 in
    let first = c.args.sums.now in
    let gain = to_z w128 (of_z w128 c.args.gain) in
    let same = to_z-of_z w128 c.args.gain c.ranges.gain in
    let upper = add-upper first c.loop-rank.sums ranks i 0 gain c.requires.ascending c.loop-rank-test.true c.loop-rank.invariant.added in
    subst (λ s. s <ℤ pos (2 ^ 127)) (sym upper)
    (subst (λ g. (sum_at first here +ℤ gain_at ranks g here) <ℤ pos (2 ^ 127)) (sym same) (c.requires.fits here))

pub loop-rank-preserved : goal.loop-rank-preserved
loop-rank-preserved c =
    let ranks = c.args.ranks.now in
    let i = c.loop-rank.rank-index in
    let here = get_or ranks i 0 in
    let first = c.args.sums.now in
    let sums = c.loop-rank.sums in
    let gain = to_z w128 (of_z w128 c.args.gain) in
    let within = c.loop-rank-test.true in
    let below : here < length sums =
    omega (arith, c.loop-rank.invariant.long, each-get (λ rank. rank < length first) ranks i 0 c.requires.in_range within) in
    record {
      long = ap length c.in_ok-add.ensures ∙ length-set sums here (sum_at sums here +ℤ gain) ∙ c.loop-rank.invariant.long;
      added = add-step first sums ranks i 0 gain c.requires.ascending within c.loop-rank.invariant.added c.add.new.self below c.in_ok-add.ensures;
    }
