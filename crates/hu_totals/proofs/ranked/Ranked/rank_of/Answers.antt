use Rattle.std.proofs.Common.{◌∙◌, sym, ap, nat_eq, position}
use Rattle.hu_totals.proofs.ItemKeys.{position-numbers}
use Rattle.hu_totals.specs.Ranked.{Ranking}
use Rattle.hu_totals.proofs.ranked.Ranked.rank_of.Goals as goal

pub returns-in_err-rank : goal.returns-in_err-rank
returns-in_err-rank c = record {
  value = c.from_residual.ensures ∙ c.in_err-rank.ensures.index
      ∙ sym (position-numbers c.args.item c.self.inside.items.keys)
      ∙ ap (λ (r : Ranking). position (nat_eq c.args.item.0) r.items) c.self.view_is;
}

pub returns : goal.returns
returns c = record {
  value = c.in_ok-rank.ensures.index ∙ sym (position-numbers c.args.item c.self.inside.items.keys)
      ∙ ap (λ (r : Ranking). position (nat_eq c.args.item.0) r.items) c.self.view_is;
}
