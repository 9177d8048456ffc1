use Rattle.std.proofs.Common.{◌≡◌, ◌↔◌, ◌∙◌, sym, ap, subst, [], IsNone}
use Rattle.hu_chain.specs.Bound.{best_of}
use Rattle.hu_chain.proofs.Places.{best_of-chain_of, best_of-none}
use Rattle.hu_chain.proofs.chain.Chain.utility.Goals as goal

pub returns-clause-none : goal.returns-clause-none
returns-clause-none c =
    let value = c.best_of.ensures ∙ ap best_of (c.deref.ensures.value ∙ c.self.view_is) in
    subst (λ o. IsNone o ↔ (c.args.self.now ≡ [])) (sym value) (best_of-none c.args.self.now)

pub returns-clause-best : goal.returns-clause-best
returns-clause-best c pattern elements ends is = c.best_of.ensures
    ∙ ap best_of (c.deref.ensures.value ∙ c.self.view_is ∙ is) ∙ best_of-chain_of pattern elements ends
