use Rattle.std.proofs.Common.{◌∙◌, sym, ap, nat_eq, position}
use Rattle.hu_proof.proofs.OrderLemmas.{position-numbers}
use Rattle.hu_proof.proofs.order.Order.rank_of.Goals as goal

pub returns : goal.returns
returns c = c.get_index_of.ensures.index ∙ (sym (position-numbers c.args.item c.self.inside.items.keys) ∙ ap (position (nat_eq c.args.item.0)) c.self.view_is)
