use Rattle.std.proofs.Common.{◌≡◌, ◌∙◌, ◌&&◌, ◌<◌, ◌^◌, ℕ, pos, ◌+ℤ◌, cond, eqb, to_z, of_z, get_or, ap, arith}
use Rattle.std.specs.Int.{w128}
use Rattle.std.proofs.lemmas.Int.{ints}
use Rattle.std.proofs.lemmas.List.{take_all}
use Rattle.hu_rows.specs.Rows.{size_of}
use Rattle.hu_rows.specs.Bounds.{value_at, local_share}
use Rattle.hu_rows.specs.View.{row_of}
use Rattle.hu_rows.proofs.BoundLemmas.{local_share-within}
use Rattle.hu_rows.proofs.SettingLemmas.{given, given-more, given-fresh, local_share-is}
use Rattle.hu_rows.proofs.PastEnd.{past_cell}
use Rattle.hu_totals.proofs.lemmas.KeptLemmas.{kept_gain-within}
use Rattle.hu_totals.specs.Cells.{among}
use Rattle.hu_totals.specs.View.{cells_of}
use Rattle.hu_rows.proofs.setting.Setting.add_local.Goals as goal

pub gain-requires : goal.gain-requires
gain-requires c = omega (arith, c.requires.fits 0)

pub overflow_add-row : goal.overflow_add-row
overflow_add-row c =
    let fits = c.requires.fits 0 in
    omega (arith, ints, kept_gain-within c.args.self.now.kept (cells_of c.args.row.now.cells.now), c.gain.ensures.value)

pub add-requires : goal.add-requires
add-requires c =
    let kept = c.args.self.now.kept in
    let row = row_of c.args.row.now in
    let rank = (get_or c.args.row.now.cells.now c.loop-cell.cell-index past_cell).rank in
    let size : size_of row < 2 ^ 127 = omega (arith, c.requires.fits 0) in
    let share : to_z w128 (of_z w128 c.positive_part-share.result) ≡ local_share kept row =
    local_share-is kept row c.gain.result c.positive_part-share.result c.gain.ensures.value size c.positive_part-share.ensures.value in
    let fresh = given-fresh kept (λ _. local_share kept row) c.args.row.now.cells.now c.loop-cell.cell-index past_cell c.requires.ascending
    c.loop-cell-test.true in
    omega (arith, ints, share, fresh, c.loop-cell.invariant.value rank, local_share-within kept row, c.requires.fits rank)

pub loop-cell-preserved : goal.loop-cell-preserved
loop-cell-preserved c =
    let kept = c.args.self.now.kept in
    let row = row_of c.args.row.now in
    let rank = (get_or c.args.row.now.cells.now c.loop-cell.cell-index past_cell).rank in
    let size : size_of row < 2 ^ 127 = omega (arith, c.requires.fits 0) in
    let share : to_z w128 (of_z w128 c.positive_part-share.result) ≡ local_share kept row =
    local_share-is kept row c.gain.result c.positive_part-share.result c.gain.ensures.value size c.positive_part-share.ensures.value in
    let added : (other : ℕ) → value_at c.add.new.self.values other
    ≡ value_at c.loop-cell.self.values other +ℤ cond (among other kept && eqb other rank) (local_share kept row) (pos 0) =
    λ other. c.add.ensures.value other
    ∙ (λ j. value_at c.loop-cell.self.values other +ℤ cond (among other (c.loop-cell.invariant.kept j) && eqb other rank) (share j) (pos 0)) in
    record {
      kept = c.add.ensures.kept ∙ c.loop-cell.invariant.kept;
      len = c.add.ensures.len ∙ c.loop-cell.invariant.len;
      value = given-more kept (λ _. local_share kept row) c.args.row.now.cells.now c.loop-cell.cell-index past_cell c.args.self.now.values
          c.loop-cell.self.values c.add.new.self.values c.requires.ascending c.loop-cell-test.true c.loop-cell.invariant.value added;
    }

pub returns-clause-value : goal.returns-clause-value
returns-clause-value c =
    let kept = c.args.self.now.kept in
    let row = row_of c.args.row.now in
    let cells = c.args.row.now.cells.now in
    λ rank. c.loop-cell.invariant.value rank
    ∙ ap (λ cs. value_at c.args.self.now.values rank +ℤ given kept (λ _. local_share kept row) (cells_of cs) rank)
    (take_all c.loop-cell.cell-index cells (omega arith))
