use Rattle.std.proofs.Common.{◌∙◌, ap, length, subst}
use Rattle.hu_closed.specs.Holders.{AreSets}
use Rattle.hu_closed.proofs.SetLemmas.{support-empty, support-found}
use Rattle.hu_closed.proofs.sets.RecordSets.count_holding.Goals as goal

pub returns-then-is_empty : goal.returns-then-is_empty
returns-then-is_empty c =
    let are = subst (λ records. AreSets records c.self.inside.lists.items c.self.inside.holders) c.self.view_is c.self.invariant in
    ap length c.as_slice-lists.ensures.value
    ∙ support-empty c.args.self.now c.self.inside.lists.items c.self.inside.holders c.args.numbers.now are c.if-is_empty.ensures

pub returns : goal.returns
returns c = c.count.ensures ∙ support-found c.args.self.now c.args.numbers.now c.found.result c.found.ensures
