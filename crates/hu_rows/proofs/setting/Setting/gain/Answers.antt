use Rattle.std.proofs.Common.{◌≡◌, ◌∙◌, ◌+◌, ◌+ℤ◌, take, to_z, of_z, arith}
use Rattle.std.specs.Int.{w128}
use Rattle.std.proofs.lemmas.Int.{ints, to_z-of_z}
use Rattle.hu_totals.specs.Cells.{kept_gain}
use Rattle.hu_totals.specs.View.{cells_of}
use Rattle.hu_totals.proofs.lemmas.GainLemmas.{kept_gain-take}
use Rattle.hu_rows.proofs.SettingLemmas.{kept_gain-more}
use Rattle.hu_rows.proofs.PastEnd.{past_cell}
use Rattle.hu_rows.proofs.setting.Setting.gain.Goals.{After-kept_part-gain}
use Rattle.hu_rows.proofs.setting.Setting.gain.Goals as goal

-- the gain with the cell's kept part
next_at : (c : After-kept_part-gain)
    → to_z w128 c.loop-cell.gain-bits +ℤ to_z w128 (of_z w128 c.kept_part-gain.result)
    ≡ kept_gain c.args.self.now.kept (cells_of (take (c.loop-cell.cell-index + 1) c.args.cells.now))
next_at c = omega (
  arith,
  ints,
  kept_gain-more c.args.self.now.kept c.args.cells.now c.loop-cell.cell-index past_cell c.loop-cell-test.true,
  c.kept_part-gain.ensures.value,
  c.loop-cell.invariant,
)

pub overflow_add-gain : goal.overflow_add-gain
overflow_add-gain c =
    omega (arith, ints, next_at c, kept_gain-take c.args.self.now.kept c.args.cells.now (c.loop-cell.cell-index + 1), c.requires)

pub loop-cell-preserved : goal.loop-cell-preserved
loop-cell-preserved c = to_z-of_z w128 _ (overflow_add-gain c) ∙ next_at c
