use Rattle.std.proofs.Common.{◌∙◌, ap}
use Rattle.hu_rows.specs.Bounds.{value_at, set_to, subtree_bound}
use Rattle.hu_rows.proofs.BoundLemmas.{BoundsLeast-subtree}
use Rattle.hu_rows.proofs.bins.Bins.subtree.Goals as goal

pub returns-clause-bounds : goal.returns-clause-bounds
returns-clause-bounds c =
    BoundsLeast-subtree c.args.rows.now c.args.keep.now (value_at c.fill_subtree.new.self.values) c.rows.ensures.rules
    (λ rank. c.fill_subtree.ensures.value rank ∙ ap (λ rows. set_to (subtree_bound rows c.args.keep.now) c.args.keep.now rank) c.rows.ensures.value)
