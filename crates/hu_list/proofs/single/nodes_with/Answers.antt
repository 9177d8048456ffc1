use Rattle.std.proofs.Common.{◌≡◌, ap, sym, ◌∙◌, [], ◌∷◌, ◌++◌, take, map, get_or, arith, option_to_list}
use Rattle.std.proofs.lemmas.List.{map_more, length-take-le, length-map}
use Rattle.hu_kind.specs.Record.{items_in, absolute_of}
use Rattle.hu_kind.specs.Order.{Ascend}
use Rattle.hu_totals.specs.View.{dense_pair, pairs_in}
use Rattle.hu_list.specs.Nodes.{list_of, node_in}
use Rattle.hu_kind.proofs.lemmas.Ascending.{each-ascending}
use Rattle.hu_list.proofs.SingleLemmas.{list_of-more, at-records, absolute-record}
use Rattle.hu_list.proofs.single.nodes_with.Goals as goal

pub node_in-requires : goal.node_in-requires
node_in-requires c =
    let r = c.index-records-place.result in
    let within = absolute-record c.args.records.now c.loop-place.place r c.loop-place-test.true in
    let is = ap (λ v. absolute_of (pairs_in v)) c.index-records-place.is in
    let same = ap (λ ds. absolute_of (map dense_pair ds)) c.deref.ensures.value in
    omega (arith, within, is, same, c.requires.sum_fits)

pub loop-place-preserved : goal.loop-place-preserved
loop-place-preserved c =
    let r = c.index-records-place.result in
    let records = c.args.records.now in
    let i = c.loop-place.place in
    let cells = pairs_in (get_or records i r) in
    let up = at-records (λ cells. Ascend (items_in cells)) records i r (each-ascending (map pairs_in records) c.requires.ascending) c.loop-place-test.true in
    let size = length-map (take i records) pairs_in ∙ length-take-le i records (omega arith) in
    let node : option_to_list c.node_in.result ≡ node_in i c.args.rank cells = c.node_in.ensures
    ∙ ap (λ ds. node_in i c.args.rank (map dense_pair ds)) c.deref.ensures.value
    ∙ ap (λ v. node_in i c.args.rank (pairs_in v)) c.index-records-place.is in
    c.in_ok-push_some.ensures
    ∙ (λ j. c.loop-place.invariant j ++ node j)
    ∙ sym (list_of-more (map pairs_in (take i records)) cells i c.args.rank size up)
    ∙ ap (λ rs. list_of rs (c.args.rank ∷ [])) (sym (map_more pairs_in records i r c.loop-place-test.true))
