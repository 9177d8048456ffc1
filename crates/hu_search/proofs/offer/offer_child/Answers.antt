use Rattle.std.proofs.Common.{◌<ℤ◌, ◌++◌, ◌∷◌, [], sym, arith}
use Rattle.std.proofs.lemmas.Int.{ints}
use Rattle.hu_collect.specs.State.{floor_in}
use Rattle.hu_collect.proofs.lemmas.Searching.{offered-low}
use Rattle.hu_search.specs.Growth.{rank_entry}
use Rattle.hu_search.proofs.offer.offer_child.Goals as goal

pub returns-then-child-floor : goal.returns-then-child-floor
returns-then-child-floor g c =
    let r = c.args.ranked.now in
    let state = g.C.Collect.state c.args.collect.now in
    let entry = rank_entry r (c.args.ranks.now ++ c.args.child.now.rank ∷ []) in
    let low : entry.utility <ℤ floor_in state = omega (arith, ints, c.requires.child.utility, c.floor.ensures.value, c.if-child-floor.true) in
    sym (offered-low state entry c.floor.ensures.in_order low)
