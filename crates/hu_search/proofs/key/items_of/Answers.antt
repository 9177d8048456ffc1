use Rattle.std.proofs.Common.{◌++◌, ◌∷◌, [], ap, sym, ◌∙◌, get_or, slice_index}
use Rattle.std.proofs.lemmas.List.{map_push, map_more}
use Rattle.hu_kind.specs.declared.item.Item.{Item}
use Rattle.hu_search.proofs.KeyLemmas.{numbers, slice_get-index}
use Rattle.hu_search.proofs.key.items_of.Goals as goal

pub loop-rank-preserved : goal.loop-rank-preserved
loop-rank-preserved c =
    let i = c.loop-rank.rank-index in
    let ranks = c.args.ranks.now in
    let table = c.args.ranked.now.items in
    ap numbers c.in_ok-push.ensures.items
    ∙ map_push (λ (item : Item). item.0) c.loop-rank.items.items c.item_of.result
    ∙ (λ j. c.loop-rank.invariant j ++ sym (slice_get-index table (get_or ranks i 0) c.item_of.result.0 c.item_of.ensures.value) j ∷ [])
    ∙ sym (map_more (λ rank. slice_index table rank) ranks i 0 c.loop-rank-test.true)
