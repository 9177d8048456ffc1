use Rattle.std.proofs.Common.{◌∙◌, Bool, ℕ, int_le, ap, to_z, of_z, get_or, rules, FitsSigned}
use Rattle.std.specs.Int.{w128}
use Rattle.std.proofs.lemmas.Int.{to_z-of_z}
use Rattle.hu_raise.specs.Sums.{sum_at}
use Rattle.hu_raise.proofs.NumberLists.{filter-more_yes, filter-more_no}
use Rattle.hu_raise.proofs.sums.reaching_among.Goals as goal
use Rattle.hu_raise.proofs.sums.reaching_among.Goals.{then-sums-rank+in_ok-push, else-sums-rank}

pub loop-rank-preserved : goal.loop-rank-preserved
loop-rank-preserved c =
    let floor = to_z w128 (of_z w128 c.args.floor) in
    let reaches : ℕ → Bool = λ rank. int_le floor (sum_at c.args.sums.now rank) in
    let ranks = c.args.ranks.now in
    let i = c.loop-rank.rank-index in
    let before = c.loop-rank.reaching.items in
    let sum = sum_at c.args.sums.now (get_or ranks i 0) in
    let fits : FitsSigned w128 sum = search rules in
    elim c.if-sums-rank.branch [
      | then-sums-rank+in_ok-push w ↦ let test = rw (to_z-of_z w128 sum fits) at w.if-sums-rank.true in
          filter-more_yes reaches ranks i before _ c.loop-rank-test.true c.loop-rank.invariant test
          (ap (λ v. v.items) w.reaching-is ∙ w.in_ok-push.ensures.items)
      | else-sums-rank w ↦ let test =
          rw (to_z-of_z w128 sum fits) at w.if-sums-rank.false in filter-more_no reaches ranks i before _
          c.loop-rank-test.true c.loop-rank.invariant test (ap (λ v. v.items) w.reaching-is)
    ]
