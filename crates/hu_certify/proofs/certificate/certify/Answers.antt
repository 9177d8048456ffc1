use Rattle.std.proofs.Common.{◌≡◌, pos, ◌<◌, ◌++◌, [], drop, length, ◌∙◌, ap, sym, subst, nat_eq, arith, to_z, of_z}
use Rattle.std.specs.Int.{w128}
use Rattle.std.specs.List.{IsDistinct}
use Rattle.std.specs.Map.{keys_of}
use Rattle.std.proofs.lemmas.Int.{to_z-of_z}
use Rattle.std.proofs.lemmas.List.{length-map}
use Rattle.hu_base.specs.Base.{records_of}
use Rattle.hu_kind.specs.declared.item.Item.{Item}
use Rattle.hu_totals.specs.declared.weights.RankOrder.TheVariants.{Gain}
use Rattle.hu_totals.specs.Weights.{by_weight, numbers_of}
use Rattle.hu_totals.proofs.lemmas.SortedLists.{IsDistinct-from_once}
use Rattle.hu_totals.proofs.lemmas.WeightLemmas.{apart-item_totals}
use Rattle.hu_certify.specs.declared.fault.CertFault.TheVariants.{TooLong}
use Rattle.hu_certify.specs.Spots.{AreRanks, spots_of, lines_from}
use Rattle.hu_certify.specs.Text.{certificate_text, lines_text}
use Rattle.hu_certify.proofs.RankLemmas.{by_weight-certificate_order, Once-certificate_order}
use Rattle.hu_certify.proofs.RootLemmas.{Begins, made, root-ascending, root-room, root-ranks, root-node, certificate-is, fault-is}
use Rattle.hu_certify.proofs.certificate.certify.Goals.{After-deref-2}
use Rattle.hu_certify.proofs.certificate.certify.Goals as goal

pub items_by_weight-requires : goal.items_by_weight-requires
items_by_weight-requires c = record {
  apart = subst (λ t. IsDistinct nat_eq (keys_of t)) (sym c.in_ok-totals.ensures.value)
      (apart-item_totals (records_of c.args.base.now));
}

pub ranked_records-requires-clause-apart : goal.ranked_records-requires-clause-apart
ranked_records-requires-clause-apart c =
    let records = records_of c.args.base.now in
    let order = c.in_ok-items.ensures.value ∙ ap (by_weight Gain (pos 0)) c.in_ok-totals.ensures.value ∙ by_weight-certificate_order records in
    subst (IsDistinct nat_eq) (sym order) (IsDistinct-from_once _ (Once-certificate_order records))

-- the order, the records and the places are those that the certificate begins with
begins_at : (c : After-deref-2)
    → Begins (records_of c.args.base.now) (numbers_of c.as_slice-2.result.now) c.in_ok-records.records.items (spots_of c.deref-2.result.now)
begins_at c =
    made (records_of c.args.base.now) c.records.result.now c.in_ok-totals.totals c.in_ok-items.items.keys c.as_slice-2.result.now c.in_ok-records.records.items
    c.deref.result.now c.in_ok-places.places.items c.deref-2.result.now c.in_ok-totals.ensures.value c.in_ok-items.ensures.value c.as_slice-2.ensures.keys
    c.records.ensures c.in_ok-records.ensures.value c.in_ok-records.ensures.rules c.deref.ensures.value c.in_ok-places.ensures c.deref-2.ensures.value
    (omega (arith, c.sum-sum.ensures.fits))

-- the first lines and those from the empty prefix on are the certificate
whole_at : (c : After-deref-2)
    → c.push_order.new.text.items
    ++ lines_text (lines_from (records_of c.args.base.now) (to_z w128 (of_z w128 c.args.least)) [] (drop 0 (numbers_of c.as_slice-2.result.now)))
    ≡ certificate_text (records_of c.args.base.now) c.args.least
whole_at c = certificate-is (records_of c.args.base.now) c.args.least (to_z w128 (of_z w128 c.args.least)) (numbers_of c.as_slice-2.result.now)
    (numbers_of c.as_slice.result.now) c.new-text.result.items c.push_minimum.new.text.items c.push_order.new.text.items
    (to_z-of_z w128 c.args.least c.ranges.least) (begins_at c).ordered
    (ap numbers_of (c.as_slice.ensures.keys ∙ sym c.as_slice-2.ensures.keys)) c.new-text.ensures.items c.in_ok-push_minimum.ensures
    c.in_ok-push_order.ensures

pub put_prefix-requires-clause-room : goal.put_prefix-requires-clause-room
put_prefix-requires-clause-room c =
    root-room (records_of c.args.base.now) _ _ _ (begins_at (goal.at.put_prefix-requires-clause-room c).After-deref-2)

pub put_prefix-requires-clause-ranks : goal.put_prefix-requires-clause-ranks
put_prefix-requires-clause-ranks c =
    let begins = begins_at (goal.at.put_prefix-requires-clause-ranks c).After-deref-2 in
    subst (λ n. AreRanks n (spots_of c.deref-2.result.now)) (length-map c.as_slice-2.result.now (λ (item : Item). item.0))
    (root-ranks (records_of c.args.base.now) _ _ _ begins)

pub put_prefix-requires-clause-ascending : goal.put_prefix-requires-clause-ascending
put_prefix-requires-clause-ascending c =
    root-ascending (records_of c.args.base.now) _ _ _ (begins_at (goal.at.put_prefix-requires-clause-ascending c).After-deref-2)

pub returns-in_err-put_prefix-clause-long : goal.returns-in_err-put_prefix-clause-long
returns-in_err-put_prefix-clause-long c = λ e.
    let records = records_of c.args.base.now in
    let order = numbers_of c.as_slice-2.result.now in
    let start = (goal.at.returns-in_err-put_prefix-clause-long c).After-deref-2 in
    let node = root-node records order c.in_ok-records.records.items
    (spots_of c.deref-2.result.now) (begins_at start) c.new.result.items c.new.ensures.items in
    let fault = fault-is c.from_residual-in_err-put_prefix.result c.in_err-put_prefix.field-0.0 c.from_residual-in_err-put_prefix.ensures.1 e in
    let long : c.in_err-put_prefix.field-0.0 ≡ TooLong
    → 268435456 < length (c.push_order.new.text.items ++ lines_text (lines_from records (to_z w128 (of_z w128 c.args.least)) [] (drop 0 order))) =
    c.in_err-put_prefix.ensures.text records 0 [] node in
    subst (λ text. 268435456 < length text) (whole_at start) (long fault)

pub returns-clause-text : goal.returns-clause-text
returns-clause-text c =
    let records = records_of c.args.base.now in
    let order = numbers_of c.as_slice-2.result.now in
    let start = (goal.at.returns-clause-text c).After-deref-2 in
    let node = root-node records order c.in_ok-records.records.items
    (spots_of c.deref-2.result.now) (begins_at start) c.new.result.items c.new.ensures.items in
    let written : c.put_prefix.new.draft.text.items ≡ c.push_order.new.text.items
    ++ lines_text (lines_from records (to_z w128 (of_z w128 c.args.least)) [] (drop 0 order)) =
    (c.in_ok-put_prefix.ensures.text records 0 [] node).0 in
    written ∙ whole_at start
