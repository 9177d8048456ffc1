use Rattle.std.proofs.Common.{◌≡◌, ◌∙◌, [], ap, sym, subst, to_z, of_z, None}
use Rattle.std.specs.Int.{w128}
use Rattle.std.specs.List.{AllByRecursion}
use Rattle.std.proofs.lemmas.Int.{to_z-of_z}
use Rattle.hu_kind.specs.Itemsets.{item_patterns}
use Rattle.hu_base.specs.Base.{records_of}
use Rattle.hu_collect.specs.State.{State, fresh, offered}
use Rattle.hu_average.specs.Best.{HasKey, BestOf}
use Rattle.hu_average.specs.Best.{offered as offered_best}
use Rattle.hu_average.proofs.BestLemmas.{best_with, if_ok-as}
use Rattle.hu_average.proofs.PlainLemmas.{taken, taken-keys, taken-answer}
use Rattle.hu_average.proofs.plain.mine_plain.Goals as goal

pub offer_all-requires-clause-keys : goal.offer_all-requires-clause-keys
offer_all-requires-clause-keys c =
    let records = records_of c.args.base.now in
    let same : to_z w128 (of_z w128 c.args.least) ≡ c.args.least = to_z-of_z w128 c.args.least c.ranges.least in
    let is = c.in_ok-into_entries.ensures
    ∙ ap (λ (s : State). s.content) (c.in_ok-mine_items.ensures ∙ ap (λ s. offered s (item_patterns records)) (c.new-all.ensures
    ∙ ap (λ z. fresh z None) same)) in
    subst (AllByRecursion HasKey) (sym is) (taken-keys c.args.least records)

pub returns : goal.returns
returns c =
    let records = records_of c.args.base.now in
    let same : to_z w128 (of_z w128 c.args.least) ≡ c.args.least = to_z-of_z w128 c.args.least c.ranges.least in
    let is = c.in_ok-into_entries.ensures
    ∙ ap (λ (s : State). s.content) (c.in_ok-mine_items.ensures ∙ ap (λ s. offered s (item_patterns records)) (c.new-all.ensures
    ∙ ap (λ z. fresh z None) same)) in
    if_ok-as c.into_entries-2.result _ _
    (λ entries held. held
    ∙ ap (λ (b : BestOf). b.content) (c.in_ok-offer_all.ensures ∙ (λ j. offered_best (c.new-best.ensures.value j) (is j))
    ∙ ap (λ z. offered_best (best_with z c.args.top []) (taken c.args.least (item_patterns records))) same)
    ∙ taken-answer c.args.least c.args.top records c.requires.least)
    c.into_entries-2.ensures
