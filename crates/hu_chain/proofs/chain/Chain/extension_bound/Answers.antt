use Rattle.std.proofs.Common.{◌≡◌, ◌∙◌, ap, sym, subst, arith, pos, to_z, of_z, unwrap_or}
use mir.Syntax.{w128}
use Rattle.std.specs.List.{AllByRecursion}
use Rattle.std.proofs.lemmas.Int.{ints}
use Rattle.hu_kind.specs.Sequence.{best_utility}
use Rattle.hu_chain.specs.Bound.{extension_bound, greatest, reach, IsAtMost, IsFit}
use Rattle.hu_chain.proofs.lemmas.Bounds.{extension-holds, extension-range, extension-within}
use Rattle.hu_chain.proofs.chain.Chain.extension_bound.Goals as goal

pub returns-clause-range : goal.returns-clause-range
returns-clause-range c =
    let value = c.unwrap_or.ensures ∙ ap (λ o. unwrap_or o (pos 0)) (c.greatest_reach.ensures ∙ ap (greatest reach) (c.deref.ensures.value ∙ c.self.view_is)) in
    let range = extension-range c.args.self.now (subst (AllByRecursion IsFit) c.self.view_is c.self.invariant) in
    let low = range.0 in
    let high = range.1 in
    (omega (arith, ints), omega (arith, ints))

pub returns-clause-bound : goal.returns-clause-bound
returns-clause-bound c pattern other elements rules ends is from =
    let value = c.unwrap_or.ensures ∙ ap (λ o. unwrap_or o (pos 0)) (c.greatest_reach.ensures ∙ ap (greatest reach) (c.deref.ensures.value ∙ c.self.view_is)) in
    let fits = c.unwrap_or.type_inv in
    let stored : to_z w128 (of_z w128 c.unwrap_or.result) ≡ c.unwrap_or.result = omega (arith, ints) in
    subst (λ bound. IsAtMost (best_utility other elements) bound) (sym (stored ∙ value ∙ ap extension_bound is))
    (extension-holds pattern other elements rules ends from)

pub returns-clause-within : goal.returns-clause-within
returns-clause-within c item pattern elements rules from is =
    let value = c.unwrap_or.ensures ∙ ap (λ o. unwrap_or o (pos 0)) (c.greatest_reach.ensures ∙ ap (greatest reach) (c.deref.ensures.value ∙ c.self.view_is)) in
    let same = value ∙ ap extension_bound is in
    let holds = extension-within item pattern elements rules from in
    let fits = c.unwrap_or.type_inv in
    omega (arith, ints)
