use Rattle.hu_collect.proofs.lemmas.Searching.{stopped}
use Rattle.hu_search.specs.Children.{IsChild, IsOneOf, ranks_of}
use Rattle.hu_kind.proofs.lemmas.Each.{each-get}
use Rattle.hu_search.proofs.lemmas.Children.{offered-next, some-offered}
use Rattle.hu_search.proofs.offer.offer_children.Goals as goal

pub offer_child-requires-clause-child : goal.offer_child-requires-clause-child
offer_child-requires-clause-child g c =
    each-get (IsChild c.args.ranked.now c.args.ranks.now) c.args.children.now c.loop-child.child-index _ c.requires.children c.loop-child-test.true

pub returns-in_err-offer_child : goal.returns-in_err-offer_child
returns-in_err-offer_child g c =
    stopped {P = IsOneOf c.args.ranked.now c.args.ranks.now (ranks_of c.args.children.now)} c.from_residual.result c.from_residual.ensures.0
    (some-offered c.args.ranked.now c.args.ranks.now c.args.children.now c.loop-child.child-index c.loop-child.invariant c.in_err-offer_child.ensures)

pub loop-child-preserved : goal.loop-child-preserved
loop-child-preserved g c =
    offered-next c.args.ranked.now c.args.ranks.now c.args.children.now c.loop-child.child-index _ c.loop-child-test.true c.requires.ordered
    (each-get (IsChild c.args.ranked.now c.args.ranks.now) c.args.children.now c.loop-child.child-index _ c.requires.children c.loop-child-test.true)
    c.loop-child.invariant c.in_ok-offer_child.ensures
