use Rattle.std.proofs.Common.{ap, ◌∙◌, get_or}
use Rattle.hu_totals.specs.Cells.{among}
use Rattle.hu_search.proofs.lemmas.Slots.{distinct-before}
use Rattle.hu_search.proofs.slots.Slots.fill.Goals as goal

pub push-requires-clause-fresh : goal.push-requires-clause-fresh
push-requires-clause-fresh c =
    let i = c.loop-rank.rank-index in
    ap (among (get_or c.args.ranks.now i 0)) c.loop-rank.invariant.ranks ∙ distinct-before c.args.ranks.now i 0 c.requires.once c.loop-rank-test.true
