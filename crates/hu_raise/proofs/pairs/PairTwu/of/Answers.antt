use Rattle.std.proofs.Common.{◌∙◌, map, length, sym, subst}
use Rattle.std.specs.Int.{w128}
use Rattle.std.proofs.lemmas.Int.{to_z-of_z}
use Rattle.hu_totals.specs.View.{pairs_in}
use Rattle.hu_raise.specs.Partners.{pair_table, RefusesJustLow}
use Rattle.hu_raise.specs.OverRanks.{AreOverRanks}
use Rattle.hu_raise.specs.View.{IsTable}
use Rattle.hu_raise.proofs.TableLemmas.{AreOverRanks-ranking, RefusesJustLow-table, ascending-table}
use Rattle.hu_raise.proofs.pairs.PairTwu.of.Goals as goal

pub partners_of_each-requires-clause-rules : goal.partners_of_each-requires-clause-rules
partners_of_each-requires-clause-rules c =
    subst (λ n. AreOverRanks n (map pairs_in c.records.result.now)) (sym c.len.ensures.value)
    (subst (AreOverRanks (length c.args.ranked.now.items)) (sym c.records.ensures.value) (AreOverRanks-ranking c.args.ranked.now c.records.ensures.rules))

pub returns-clause-value : goal.returns-clause-value
returns-clause-value c =
    let floor = c.args.floor in
    let same = to_z-of_z w128 floor c.ranges.floor in
    let is = c.in_ok-partners.ensures in
    (λ j. record { floor = same j; partners = is j })
    ∙ (λ j. record { floor = floor; partners = (pair_table (c.records.ensures.value j) (same j) (c.len.ensures.value j)).partners })

pub invariant_of-result : goal.invariant_of-result
invariant_of-result c =
    subst IsTable (sym (returns-clause-value c))
    (record { ascending = ascending-table c.args.ranked.now.records c.args.floor (length c.args.ranked.now.items) })

pub returns-clause-exact : goal.returns-clause-exact
returns-clause-exact c =
    let records = c.args.ranked.now.records in
    subst (RefusesJustLow records) (sym (returns-clause-value c))
    (RefusesJustLow-table records c.args.floor (length c.args.ranked.now.items) (AreOverRanks-ranking c.args.ranked.now c.records.ensures.rules) c.requires)

pub returns-clause-right : goal.returns-clause-right
returns-clause-right c a b before = (returns-clause-exact c a b before).0
