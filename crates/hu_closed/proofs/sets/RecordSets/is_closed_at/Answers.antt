use Rattle.std.proofs.Common.{◌∙◌, ap, sym, not, subst}
use Rattle.hu_totals.specs.Weights.{numbers_of}
use Rattle.hu_closed.specs.Holders.{lists_of, AreSets}
use Rattle.hu_closed.proofs.SetLemmas.{closed-none, closed-some}
use Rattle.hu_closed.proofs.sets.RecordSets.is_closed_at.Goals as goal

pub returns-in-Some : goal.returns-in-Some
returns-in-Some c =
    ap not c.any_closes.ensures ∙ closed-some c.args.self.now c.args.numbers.now c.found.result c.in-Some.held.rest
    (numbers_of c.in-Some.held.items.now) c.found.ensures c.in-Some.ensures.some (sym c.if-not-is_set_key.ensures)

pub returns-in-None : goal.returns-in-None
returns-in-None c =
    let are = subst (λ records. AreSets records c.self.inside.lists.items c.self.inside.holders) c.self.view_is c.self.invariant in
    let lists = c.deref.result.now in
    ap not c.any_outside.ensures ∙ closed-none c.args.self.now (lists_of lists) c.args.numbers.now c.found.result
    (ap lists_of c.deref.ensures.value ∙ are.lists) c.found.ensures (sym c.if-not-is_set_key.ensures) c.in-None.ensures.none
