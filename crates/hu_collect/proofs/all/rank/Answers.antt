use Rattle.hu_collect.proofs.Bodies.{ranking-dedup}
use Rattle.hu_collect.proofs.all.rank.Goals as goal

pub returns : goal.returns
returns c = ranking-dedup _ _ _ c.sort_unstable.ensures.permutation c.sort_unstable.ensures.sorted c.dedup.ensures.filtered
