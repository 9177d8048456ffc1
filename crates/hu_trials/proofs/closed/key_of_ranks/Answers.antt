use Rattle.std.proofs.Common.{rules, ◌≡◌, ◌<◌, pos, [], ◌∷◌}
use Rattle.std.proofs.lemmas.Option.{get_or_from_slice_get}
use Rattle.hu_closed.proofs.lemmas.RankLemmas.{CanOpen-pair}
use Rattle.hu_trials.proofs.closed.key_of_ranks.Goals as goal

pub returns : goal.returns
returns g c =
    let table = c.args.ranked.now.items in
    let low = get_or_from_slice_get table c.args.first c.item_of-low.result.0 0 c.item_of-low.ensures.value in
    let high = get_or_from_slice_get table c.args.last c.item_of-high.result.0 0 c.item_of-high.ensures.value in
    let rises : c.item_of-low.result.0 < c.item_of-high.result.0 = search rules in
    let is : c.push-2.new.self ≡ pos c.item_of-low.result.0 ∷ pos c.item_of-high.result.0 ∷ [] = search rules in
    CanOpen-pair table c.args.first c.args.last c.item_of-low.result.0 c.item_of-high.result.0 c.push-2.new.self
    c.requires.order c.requires.within low high rises is
