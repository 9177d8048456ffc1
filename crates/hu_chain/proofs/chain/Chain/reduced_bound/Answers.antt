use Rattle.std.proofs.Common.{◌≡◌, ◌∙◌, ap, sym, subst, arith, to_z, of_z, true, false}
use mir.Syntax.{w128}
use Rattle.std.proofs.lemmas.Int.{ints}
use Rattle.hu_kind.specs.Sequence.{best_utility}
use Rattle.hu_chain.specs.Pattern.{last_item}
use Rattle.hu_chain.specs.Grown.{grown}
use Rattle.hu_chain.specs.Bound.{reduced_bound, IsAtMost}
use Rattle.hu_chain.specs.Search.{occurs}
use Rattle.hu_chain.proofs.lemmas.Patterns.{Ends-can_grow}
use Rattle.hu_chain.proofs.lemmas.Bounds.{reduced-holds, reduced-seen}
use Rattle.hu_chain.proofs.lemmas.Growing.{may_follow, rules-seen}
use Rattle.hu_chain.proofs.chain.Chain.reduced_bound.Goals.{After-occurs}
use Rattle.hu_chain.proofs.chain.Chain.reduced_bound.Goals as goal

pub occurs-requires-clause-places : goal.occurs-requires-clause-places
occurs-requires-clause-places c =
    let pattern = c.requires.0 in
    let ends = Ends-can_grow c.args.growth pattern c.args.item.0 c.requires.1 in (
      last_item pattern,
      may_follow c.args.growth pattern c.args.item.0 c.requires.1,
      rules-seen pattern _ _ _ ends (c.deref.ensures.value ∙ c.self.view_is ∙ c.requires.2) c.elements.ensures.value,
    )

-- whether the growth occurs at the places
seen_at : (c : After-occurs)
    → occurs c.args.growth c.args.item.0 c.args.seq.now c.args.self.now ≡ c.occurs.result
seen_at c = ap (λ es. occurs c.args.growth c.args.item.0 es c.args.self.now) (sym c.elements.ensures.value)
    ∙ ap (occurs c.args.growth c.args.item.0 c.elements.result.now) (sym (c.deref.ensures.value ∙ c.self.view_is))
    ∙ sym c.occurs.ensures

pub returns-then-occurs-clause-value : goal.returns-then-occurs-clause-value
returns-then-occurs-clause-value c pattern can is =
    let places = c.args.self.now in
    let elements = c.args.seq.now in
    let growth = c.args.growth in
    let item = c.args.item.0 in
    let tested = seen_at (goal.at.returns-then-occurs-clause-value c).After-occurs ∙ c.if-occurs.true in
    let value = reduced-seen growth pattern item elements places true can is tested in
    let fits = c.extension_bound.type_inv in
    let stored : to_z w128 (of_z w128 c.extension_bound.result) ≡ c.extension_bound.result = omega (arith, ints) in
    stored ∙ c.extension_bound.ensures.value ∙ sym value

pub returns-then-occurs-clause-bound : goal.returns-then-occurs-clause-bound
returns-then-occurs-clause-bound c pattern other can is from =
    let places = c.args.self.now in
    let elements = c.args.seq.now in
    let growth = c.args.growth in
    let item = c.args.item.0 in
    let tested = seen_at (goal.at.returns-then-occurs-clause-bound c).After-occurs ∙ c.if-occurs.true in
    let value = reduced-seen growth pattern item elements places true can is tested in
    let fits = c.extension_bound.type_inv in
    let stored : to_z w128 (of_z w128 c.extension_bound.result) ≡ c.extension_bound.result = omega (arith, ints) in
    let holds = reduced-holds growth pattern other item elements c.elements.ensures.rules can from in
    subst (λ bound. IsAtMost (best_utility other elements) bound)
    (sym (ap (λ ps. reduced_bound ps (grown growth pattern item) elements) is) ∙ value
    ∙ sym (stored ∙ c.extension_bound.ensures.value)) holds

pub returns-else-occurs-clause-value : goal.returns-else-occurs-clause-value
returns-else-occurs-clause-value c pattern can is =
    let places = c.args.self.now in
    let elements = c.args.seq.now in
    let growth = c.args.growth in
    let item = c.args.item.0 in
    let tested = seen_at (goal.at.returns-else-occurs-clause-value c).After-occurs ∙ c.if-occurs.false in
    let value = reduced-seen growth pattern item elements places false can is tested in
    sym value

pub returns-else-occurs-clause-bound : goal.returns-else-occurs-clause-bound
returns-else-occurs-clause-bound c pattern other can is from =
    let places = c.args.self.now in
    let elements = c.args.seq.now in
    let growth = c.args.growth in
    let item = c.args.item.0 in
    let tested = seen_at (goal.at.returns-else-occurs-clause-bound c).After-occurs ∙ c.if-occurs.false in
    let value = reduced-seen growth pattern item elements places false can is tested in
    let holds = reduced-holds growth pattern other item elements c.elements.ensures.rules can from in
    subst (λ bound. IsAtMost (best_utility other elements) bound) (sym (ap (λ ps. reduced_bound ps (grown growth pattern item) elements) is) ∙ value) holds
