use Rattle.std.proofs.Common.{◌≡◌, List, ◌++◌, ◌∷◌, [], ap, sym, ◌∙◌, pos, slice_index, map}
use Rattle.std.proofs.lemmas.List.{map_push, map-append}
use Rattle.std.proofs.lemmas.List.Sorted.{IsNonDecreasingBy-from_sort}
use Rattle.std.proofs.lemmas.Result.{IfOk-weaker}
use Rattle.hu_collect.specs.Ranks.{key_of}
use Rattle.hu_kind.specs.declared.item.Item.{Item}
use Rattle.hu_search.proofs.KeyLemmas.{numbers, slice_get-index, key-sorted}
use Rattle.hu_search.proofs.key.key_of.Goals as goal

pub returns : goal.returns
returns c =
    let table = c.args.ranked.now.items in
    let ranks = c.args.ranks.now in
    let last = c.args.last in
    let numbered =
    ap numbers c.in_ok-push.ensures.items
    ∙ map_push (λ (item : Item). item.0) c.in_ok-items.items.items c.item_of.result
    ∙ (λ j. c.in_ok-items.ensures j ++ sym (slice_get-index table last c.item_of.result.0 c.item_of.ensures.value) j ∷ [])
    ∙ sym (map-append (λ rank. slice_index table rank) ranks (last ∷ [])) in
    let sorted = c.sort_unstable.ensures in
    let key =
    key-sorted c.args.ranked.now c.requires.rules (ranks ++ last ∷ []) c.push.new.self.items
    c.sort_unstable.new.self.items c.requires.ascending c.requires.table numbered sorted.permutation
    (IsNonDecreasingBy-from_sort (λ (item : Item). item.0) c.sort_unstable.new.self.items sorted.sorted) in
    IfOk-weaker c.key_with.result (λ found. found ≡ map (λ (item : Item). pos item.0) c.deref.result.now) (λ found. found ≡ key_of table (ranks ++ last ∷ []))
    (λ found e. e ∙ ap (λ (items : List Item). map (λ (item : Item). pos item.0) items) c.deref.ensures.value ∙ key) c.key_with.ensures
