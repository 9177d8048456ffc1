use Rattle.std.proofs.Common.{◌∙◌, ap}
use Rattle.hu_rows.specs.Bounds.{value_at, set_to, local_bound}
use Rattle.hu_rows.proofs.BoundLemmas.{BoundsEach-local}
use Rattle.hu_rows.proofs.bins.Bins.local.Goals as goal

pub returns-clause-bounds : goal.returns-clause-bounds
returns-clause-bounds c =
    BoundsEach-local c.args.rows.now c.args.keep.now (value_at c.fill_local.new.self.values) c.rows.ensures.rules
    (λ rank. c.fill_local.ensures.value rank ∙ ap (λ rows. set_to (local_bound rows c.args.keep.now) c.args.keep.now rank) c.rows.ensures.value)
