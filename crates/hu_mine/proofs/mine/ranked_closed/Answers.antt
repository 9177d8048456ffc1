use Rattle.hu_totals.specs.declared.weights.RankOrder.TheVariants.{Value}
use Rattle.hu_closed.proofs.lemmas.RankLemmas.{IsRankingOf-ordered}
use Rattle.hu_mine.proofs.mine.ranked_closed.Goals as goal

pub closed_from-requires-clause-ranks : goal.closed_from-requires-clause-ranks
closed_from-requires-clause-ranks c = IsRankingOf-ordered Value _ _ _ _ c.in_ok-sets.ensures c.in_ok-ranked.ensures.value
