use Rattle.hu_plain.proofs.RowLemmas.{SameMembers-distinct}
use Rattle.hu_plain.proofs.row.distinct.Goals as goal

pub returns : goal.returns
returns c =
    SameMembers-distinct c.args.items.items c.sort_unstable.new.self.items c.dedup.new.self.items
    c.sort_unstable.ensures.permutation c.dedup.ensures.filtered
