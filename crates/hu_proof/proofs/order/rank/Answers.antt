use Rattle.hu_proof.proofs.order.rank.Goals as goal
use Rattle.hu_proof.proofs.lemmas.OrderMembers.{ranking-dedup}

pub returns : goal.returns
returns c = ranking-dedup c.args.numbers.now.items c.sort_unstable.new.self.items c.dedup.new.self.items c.sort_unstable.ensures.permutation
    c.sort_unstable.ensures.sorted c.dedup.ensures.filtered
