use Rattle.std.proofs.Common.{◌<◌, ◌^◌, [], ◌∷◌, ap, sym, ◌∙◌, subst, sum_by}
use Rattle.hu_list.specs.Nodes.{list_of, weight_of}
use Rattle.hu_list.proofs.ListLemmas.{weight-list, AreRanked-ranking}
use Rattle.hu_list.proofs.list.UtilityList.build.Goals as goal

pub invariant_of-result : goal.invariant_of-result
invariant_of-result c =
    subst (λ ns. sum_by weight_of ns < 2 ^ 127) (sym (c.in_ok-nodes.ensures ∙ ap (λ rs. list_of rs (c.args.rank ∷ [])) c.records.ensures.value))
    (weight-list c.args.ranked.now.records (c.args.rank ∷ []) (AreRanked-ranking c.args.ranked.now c.records.ensures.rules) (tt, tt))
