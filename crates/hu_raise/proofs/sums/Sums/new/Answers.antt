use Rattle.std.proofs.Common.{[], subst, sym}
use Rattle.hu_raise.specs.Sums.{AreSums}
use Rattle.hu_raise.proofs.SumLemmas.{AreSums-replicate}
use Rattle.hu_raise.proofs.sums.Sums.new.Goals as goal

pub invariant_of-result : goal.invariant_of-result
invariant_of-result c =
    let zeros = c.in_ok-sums.ensures.items_if_clones_equal (λ y e. e) in
    subst (λ touched. AreSums c.in_ok-sums.sums.items touched) (sym c.in_ok-touched.ensures.items)
    (subst (λ sums. AreSums sums []) (sym zeros) (AreSums-replicate c.args.ranks))
