use Rattle.std.proofs.Common.{◌∙◌, sym, ap, nat_eq}
use Rattle.std.specs.Map.{lookup}
use Rattle.hu_totals.proofs.ItemKeys.{lookup-pairs_with}
use Rattle.hu_totals.proofs.totals.Totals.item.Goals as goal

pub returns : goal.returns
returns c = record {
  value = c.copied.ensures ∙ c.get.ensures.value ∙ sym (lookup-pairs_with c.args.item c.self.inside.totals.entries)
      ∙ ap (lookup (nat_eq c.args.item.0)) c.self.view_is;
}
