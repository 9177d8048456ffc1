use Rattle.std.proofs.Common.{◌≡◌, ℤ, drop, sym, ap, ◌∙◌, of_z, rules, arith, inr, FitsSigned}
use Rattle.std.specs.Int.{w128}
use Rattle.std.proofs.lemmas.Int.{ints, to_z-of_z}
use Rattle.hu_proof.specs.Judged.{children_fault_at, line_fault_at, node_at}
use Rattle.hu_proof.specs.Places.{places_of, earned}
use Rattle.hu_proof.specs.Text.{said_of}
use Rattle.hu_proof.specs.Words.{numbers_of}
use Rattle.hu_proof.proofs.LineLemmas.{fault-children, fault-utility, judged-same, utility-right}
use Rattle.hu_proof.proofs.line.check_line.Goals.{After-deref-2}
use Rattle.hu_proof.proofs.line.check_line.Goals as goal

-- where the tokens are read, the line's fault is that of its children
children_at : (c : After-deref-2)
    → line_fault_at c.args.terms.least c.args.line.number (node_at c.args.terms.order.now (numbers_of c.args.prefix.now) c.args.node.now.from)
    (places_of c.args.node.now.places.items) (said_of c.args.line.text.now)
    ≡ children_fault_at c.args.terms.least c.args.line.number (drop c.args.node.now.from c.args.terms.order.now)
    (places_of c.args.node.now.places.items) c.deref-2.result.now
children_at c =
    let node = node_at c.args.terms.order.now (numbers_of c.args.prefix.now) c.args.node.now.from in
    let places = places_of c.args.node.now.places.items in
    let said = c.in-Some.said in
    let fits : FitsSigned w128 said.utility = search rules in
    let equal : said.utility ≡ c.earned-summed.result = omega (arith, ints, c.if-stated-summed.false, fits) in
    let sum = equal ∙ (c.earned-summed.ensures ∙ ap (λ ps. earned (places_of ps)) c.deref.ensures.value) in
    let same = fault-children c.args.terms.least c.args.line.number node places c.args.line.text.now said.prefix.now said.tokens.now said.utility c.in-Some.ensures.some
    (sym c.if-not-is_prefix.ensures)
    (utility-right c.args.line.number said.utility (earned places) sum) c.in_ok-tokens.ensures.fault in
    let tokens = c.deref-2.ensures.value ∙ c.in_ok-tokens.ensures.value in
    same ∙ ap (children_fault_at c.args.terms.least c.args.line.number node.later places) (sym tokens)

pub returns-in-Ok-clause-fault : goal.returns-in-Ok-clause-fault
returns-in-Ok-clause-fault c = children_at (goal.at.returns-in-Ok-clause-fault c).After-deref-2 ∙ c.in-Ok.ensures

pub returns-in-Err-clause-fault : goal.returns-in-Err-clause-fault
returns-in-Err-clause-fault c =
    judged-same c.in-Err.fault _ _ (children_at (goal.at.returns-in-Err-clause-fault c).After-deref-2) c.in-Err.ensures

pub returns-then-stated-summed-clause-fault : goal.returns-then-stated-summed-clause-fault
returns-then-stated-summed-clause-fault c =
    let node = node_at c.args.terms.order.now (numbers_of c.args.prefix.now) c.args.node.now.from in
    let places = places_of c.args.node.now.places.items in
    let said = c.in-Some.said in
    let summed : ℤ = c.earned-summed.result in
    let stated-fits : FitsSigned w128 said.utility = search rules in
    let summed-fits : FitsSigned w128 summed = search rules in
    let sum = sym (c.earned-summed.ensures ∙ ap (λ ps. earned (places_of ps)) c.deref.ensures.value) in
    let fault = fault-utility c.args.terms.least c.args.line.number node places c.args.line.text.now said.prefix.now said.tokens.now said.utility
    summed c.in-Some.ensures.some (sym c.if-not-is_prefix.ensures) sum (λ e. c.if-stated-summed.true (ap (of_z w128) e)) in
    inr (rw (to_z-of_z w128 said.utility stated-fits, to_z-of_z w128 summed summed-fits) fault)
