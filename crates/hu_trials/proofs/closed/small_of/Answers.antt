use Rattle.hu_base.specs.Base.{records_of}
use Rattle.hu_closed.proofs.lemmas.RankLemmas.{IsRankingOf-made}
use Rattle.hu_trials.proofs.closed.small_of.Goals as goal

pub returns : goal.returns
returns c =
    IsRankingOf-made _ (records_of c.args.base.now) c.in_ok-sets.sets c.in_ok-ranked.ranked c.in_ok-sets.ensures c.in_ok-ranked.ensures.value
