use Rattle.std.proofs.Common.{◌≡◌, sym, subst, arith}
use Rattle.std.proofs.lemmas.Grind.{common_steps}
use Rattle.hu_rows.specs.Rows.{AreRows}
use Rattle.hu_rows.specs.Projection.{projected}
use Rattle.hu_rows.specs.View.{rows_of}
use Rattle.hu_rows.proofs.ProjectionLemmas.{AreRows-projected}
use Rattle.hu_rows.proofs.RunLemmas.{IsRow-at}
use Rattle.hu_rows.proofs.projection.projected_rows.Goals as goal

pub projected_row-requires : goal.projected_row-requires
projected_row-requires c =
    let rules : AreRows (rows_of c.rows-row-items.result.now) = subst AreRows (sym c.rows-row-items.ensures.value) c.rows-row-items.ensures.rules in
    let row = IsRow-at c.rows-row-items.result.now c.loop-row.row-index rules c.loop-row-test.true in
    record { ascending = row.ascending; size = row.size }

pub returns-clause-rules : goal.returns-clause-rules
returns-clause-rules c =
    let is : rows_of c.loop-row.projected.items ≡ projected c.args.z c.args.rows.now = grind (arith, common_steps) in
    subst AreRows (sym is) (AreRows-projected c.args.z c.args.rows.now c.rows-row-items.ensures.rules)
