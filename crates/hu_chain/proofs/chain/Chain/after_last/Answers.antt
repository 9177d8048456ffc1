use Rattle.std.proofs.Common.{◌∙◌, ap, sym}
use Rattle.hu_chain.specs.Pattern.{last_item}
use Rattle.hu_chain.specs.Search.{followed_places}
use Rattle.hu_chain.proofs.lemmas.Growing.{chain_of-after, rules-seen}
use Rattle.hu_chain.proofs.chain.Chain.after_last.Goals as goal

pub followed-requires-clause-places : goal.followed-requires-clause-places
followed-requires-clause-places c =
    let pattern = c.requires.0 in
    (last_item pattern, rules-seen pattern _ _ _ c.requires.1 (c.deref.ensures.value ∙ c.self.view_is ∙ c.requires.2) c.elements.ensures.value)

pub returns : goal.returns
returns c pattern ends is =
    let item = c.args.item.0 in
    c.in_ok-places.ensures.value
    ∙ ap (λ es. followed_places es item c.deref.result.now) c.elements.ensures.value
    ∙ ap (followed_places c.args.seq.now item) (c.deref.ensures.value ∙ c.self.view_is ∙ is)
    ∙ sym (chain_of-after pattern item c.args.seq.now ends)
