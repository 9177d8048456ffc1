use Rattle.std.proofs.Common.{◌∙◌, ap, sym, pos, arith, []}
use Rattle.std.proofs.lemmas.Int.{ints}
use Rattle.hu_chain.specs.Place.{totals}
use Rattle.hu_chain.specs.Search.{walked}
use Rattle.hu_chain.proofs.Tails.{totals-absolute}
use Rattle.hu_chain.proofs.lemmas.Growing.{chain_of-start}
use Rattle.hu_chain.proofs.chain.Chain.start.Goals as goal

pub places_from-requires-clause-walk : goal.places_from-requires-clause-walk
places_from-requires-clause-walk c =
    let sum = ap totals c.elements.ensures.value ∙ totals-absolute c.args.seq.now c.elements.ensures.rules in
    let known = c.absolute.ensures.value in
    let fits = c.absolute.ensures.fits in
    record { ahead = omega (arith, ints); best = omega (arith, ints); fits = omega (arith, ints); left = tt }

pub returns : goal.returns
returns c =
    c.in_ok-places.ensures.value ∙ ap (walked c.args.item.0 0 (pos 0) []) c.elements.ensures.value ∙ sym (chain_of-start c.args.item.0 c.args.seq.now)
