use Rattle.std.proofs.Common.{◌∙◌, ap, sym}
use Rattle.hu_chain.specs.Pattern.{last_item}
use Rattle.hu_chain.specs.Search.{joined_places}
use Rattle.hu_chain.proofs.Finding.{chain_of-into}
use Rattle.hu_chain.proofs.lemmas.Growing.{rules-seen}
use Rattle.hu_chain.proofs.chain.Chain.into_last.Goals as goal

pub joined-requires-clause-places : goal.joined-requires-clause-places
joined-requires-clause-places c =
    let pattern = c.requires.0 in
    let below = c.requires.1 in
    (last_item pattern, below.below, rules-seen pattern _ _ _ below.ends (c.deref.ensures.value ∙ c.self.view_is ∙ c.requires.2) c.elements.ensures.value)

pub returns : goal.returns
returns c pattern below is =
    let item = c.args.item.0 in
    c.in_ok-places.ensures.value
    ∙ ap (λ es. joined_places es item c.deref.result.now) c.elements.ensures.value
    ∙ ap (joined_places c.args.seq.now item) (c.deref.ensures.value ∙ c.self.view_is ∙ is)
    ∙ sym (chain_of-into pattern item c.args.seq.now)
