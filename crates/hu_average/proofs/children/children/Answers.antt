use Rattle.std.proofs.Common.{sym, subst}
use Rattle.hu_search.proofs.lemmas.Slots.{Ascend-distinct}
use Rattle.hu_average.specs.Tails.{tails_of, AreSums}
use Rattle.hu_average.specs.Children.{AreTotals}
use Rattle.hu_average.proofs.SearchLemmas.{totals-left}
use Rattle.hu_average.proofs.children.children.Goals as goal

pub fill-requires-clause-once : goal.fill-requires-clause-once
fill-requires-clause-once c = Ascend-distinct c.args.later.now c.requires.later.ascending

pub children_of-requires-clause-totals : goal.children_of-requires-clause-totals
children_of-requires-clause-totals c =
    let r = c.args.walk.now.ranked.now in
    let set = c.args.ranks.now in
    let later = c.args.later.now in
    let tails = tails_of c.args.tails.now in
    let totals = c.in_ok-totals.totals.items in
    let sums : AreSums later tails totals = subst (λ ranks. AreSums ranks tails totals) c.in_ok-fill.ensures.ranks c.in_ok-totals.ensures in
    subst (AreTotals r set later) (sym c.deref.ensures.value) (totals-left r set later tails totals c.requires.left c.requires.later sums)
