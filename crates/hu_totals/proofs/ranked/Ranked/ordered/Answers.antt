use Rattle.std.proofs.Common.{◌≡◌, ◌∙◌, ℕ, ℤ, List, ap, sym, subst, nat_eq, arith, to_z, of_z, FitsSigned}
use Rattle.std.specs.Int.{w128}
use Rattle.std.specs.List.{AllByRecursion, IsDistinct}
use Rattle.std.specs.Map.{keys_of}
use Rattle.std.proofs.lemmas.Int.{to_z-of_z}
use Rattle.hu_base.specs.Base.{records_of}
use Rattle.hu_kind.specs.Record.{IsRecord}
use Rattle.hu_kind.specs.declared.item.Item.{Item}
use Rattle.hu_totals.specs.declared.totals.ItemTotal.{ItemTotal}
use Rattle.hu_totals.specs.Totals.{item_totals}
use Rattle.hu_totals.specs.Laws.{KeepsSets, RanksHigh, KeepsPatterns}
use Rattle.hu_totals.specs.declared.weights.RankOrder.{RankOrder}
use Rattle.hu_totals.specs.Ranked.{IsRanking, ordered_items, over_ranks}
use Rattle.hu_totals.specs.Weights.{by_weight, numbers_of}
use Rattle.hu_totals.proofs.lemmas.SortedLists.{IsDistinct-from_once}
use Rattle.hu_totals.proofs.lemmas.WeightLemmas.{by_weight-item_totals, apart-item_totals, Once-ordered_items}
use Rattle.hu_totals.proofs.lemmas.RankingRules.{IsRanking-ranked, ranking-is}
use Rattle.hu_totals.proofs.LawLemmas.{KeepsSets-ranked, RanksHigh-ranked, KeepsPatterns-ranked}
use Rattle.hu_totals.proofs.ranked.Ranked.ordered.Goals as goal

pub items_by_weight-requires : goal.items_by_weight-requires
items_by_weight-requires c =
    record {
      apart = subst (λ t. IsDistinct nat_eq (keys_of t)) (sym c.requires.totals)
          (apart-item_totals (records_of c.args.base.now));
    }

-- the set has the items that have a rank
ranked_set : (order : RankOrder) (floor : ℤ) (records : List (List (ℕ × ℤ))) (keys : List Item) (totals : List (ℕ × ItemTotal))
    → FitsSigned w128 floor → numbers_of keys ≡ by_weight order (to_z w128 (of_z w128 floor)) totals → totals ≡ item_totals records
    → numbers_of keys ≡ ordered_items order floor records
ranked_set order floor records keys totals fits is same =
    is ∙ (λ j. by_weight order (to_z-of_z w128 floor fits j) (same j)) ∙ by_weight-item_totals order records floor

pub ranked_records-requires-clause-apart : goal.ranked_records-requires-clause-apart
ranked_records-requires-clause-apart c =
    let records = records_of c.args.base.now in
    let items =
    ranked_set c.args.order c.args.floor records c.in_ok-items.items.keys c.args.totals.now c.ranges.floor
    c.in_ok-items.ensures.value c.requires.totals in
    subst (IsDistinct nat_eq) (sym items) (IsDistinct-from_once (ordered_items c.args.order c.args.floor records)
    (Once-ordered_items records c.args.order c.args.floor))

pub returns-clause-value : goal.returns-clause-value
returns-clause-value c =
    let records = records_of c.args.base.now in
    let items =
    ranked_set c.args.order c.args.floor records c.in_ok-items.items.keys c.args.totals.now c.ranges.floor
    c.in_ok-items.ensures.value c.requires.totals in
    let over = c.in_ok-records.ensures.value ∙ ap (over_ranks (numbers_of c.in_ok-items.items.keys)) c.records.ensures in
    ranking-is c.args.order c.args.floor _ c.in_ok-items.items.keys c.in_ok-records.records.items records
    (to_z-of_z w128 c.args.floor c.ranges.floor) items over

pub invariant_of-result : goal.invariant_of-result
invariant_of-result c =
    let records = records_of c.args.base.now in
    let rules = subst (AllByRecursion IsRecord) c.records.ensures c.in_ok-records.ensures.rules in
    subst IsRanking (sym (returns-clause-value c))
    (IsRanking-ranked c.args.order c.args.floor records c.requires.floor rules
    (omega (arith, c.sum-sum.ensures.fits)))

pub returns-clause-sets : goal.returns-clause-sets
returns-clause-sets c = let records =
    records_of c.args.base.now in subst (KeepsSets records) (sym (returns-clause-value c))
    (KeepsSets-ranked c.args.order c.args.floor records)

pub returns-clause-high : goal.returns-clause-high
returns-clause-high c = let records =
    records_of c.args.base.now in subst (RanksHigh records) (sym (returns-clause-value c))
    (RanksHigh-ranked c.args.order c.args.floor records c.requires.floor)

pub returns-clause-patterns : goal.returns-clause-patterns
returns-clause-patterns c =
    let records = records_of c.args.base.now in
    subst (KeepsPatterns records) (sym (returns-clause-value c)) (KeepsPatterns-ranked c.args.order c.args.floor records c.requires.floor)
