use Rattle.std.proofs.Common.{rules, ◌≡◌, ◌∙◌, ap, not, length, subst}
use Rattle.std.specs.Bool.{◌==◌}
use Rattle.std.specs.Vec.{vec_len}
use Rattle.hu_totals.specs.Weights.{numbers_of}
use Rattle.hu_closed.specs.Holders.{AreSets}
use Rattle.hu_closed.proofs.SetLemmas.{held-none, held-some, support-empty}
use Rattle.hu_closed.proofs.sets.RecordSets.any_holding.Goals as goal

pub returns-then-is_empty : goal.returns-then-is_empty
returns-then-is_empty c =
    let are = subst (λ records. AreSets records c.self.inside.lists.items c.self.inside.holders) c.self.view_is c.self.invariant in
    let many = support-empty c.args.self.now c.self.inside.lists.items c.self.inside.holders c.args.numbers.now are c.if-is_empty.ensures in
    let long : vec_len c.self.inside.lists ≡ length c.self.inside.lists.items = search rules in
    ap not c.is_empty-then-is_empty.ensures ∙ ap (λ n. not (n == 0)) (long ∙ many)

pub returns-in-Some : goal.returns-in-Some
returns-in-Some c =
    held-some c.args.self.now c.args.numbers.now c.found.result c.in-Some.field-0.rest
    (numbers_of c.in-Some.field-0.items.now) c.found.ensures c.in-Some.ensures.some

pub returns-in-None : goal.returns-in-None
returns-in-None c = held-none c.args.self.now c.args.numbers.now c.found.result c.found.ensures c.in-None.ensures.none
