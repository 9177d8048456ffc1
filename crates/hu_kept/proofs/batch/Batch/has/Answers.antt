use Rattle.std.proofs.Common.{◌∙◌, nat_eq, ap, is_some}
use Rattle.std.specs.Map.{lookup}
use Rattle.hu_kept.specs.Shared.{occurs_in}
use Rattle.hu_kept.proofs.SharedRecords.{occurs-totals}
use Rattle.hu_kept.proofs.batch.Batch.has.Goals as goal

pub returns : goal.returns
returns c =
    let item = c.args.item.0 in
    c.is_some.ensures
    ∙ ap is_some (c.item.ensures.value ∙ ap (lookup (nat_eq item)) c.self.invariant)
    ∙ occurs-totals c.self.inside.sets item
    ∙ ap (λ records. occurs_in records item) c.self.view_is
