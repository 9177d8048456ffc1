use Rattle.std.proofs.Common.{◌≡◌, ◌∙◌, ◌&&◌, ℕ, pos, ◌+ℤ◌, ℤ, List, cond, eqb, unsigned_abs, to_z, of_z, get_or, ap, arith, rules}
use Rattle.std.specs.Int.{w128}
use Rattle.std.proofs.lemmas.Int.{ints, to_z-of_z}
use Rattle.hu_totals.specs.View.{dense_pair}
use Rattle.hu_totals.specs.Cells.{among}
use Rattle.hu_rows.specs.Bounds.{value_at, subtree_share}
use Rattle.hu_rows.specs.Setting.{kept_part}
use Rattle.hu_rows.specs.View.{row_of}
use Rattle.hu_rows.proofs.BoundLemmas.{subtree_share-within}
use Rattle.hu_rows.proofs.SettingLemmas.{Left, left-after, left-room, left-now, left-before, left-value, left-share, given-more, given-fresh}
use Rattle.hu_rows.proofs.PastEnd.{past_cell}
use Rattle.hu_rows.proofs.setting.Setting.add_subtree.Goals.{After-kept_part-rest, After-share_of}
use Rattle.hu_rows.proofs.setting.Setting.add_subtree.Goals as goal

pub gain-rest-requires : goal.gain-rest-requires
gain-rest-requires c = omega (arith, c.requires.fits 0)

-- what is left of a row after a cell
left_at : (c : After-kept_part-rest) → Left c.args.self.now.kept c.args.row.now c.loop-cell.cell-index past_cell
    (to_z w128 c.loop-cell.rest-bits) c.kept_part-rest.result
left_at c =
    let cell = get_or c.args.row.now.cells.now c.loop-cell.cell-index past_cell in
    record {
      within = c.loop-cell-test.true;
      fits = omega (arith, c.requires.fits 0);
      rest_is = c.loop-cell.invariant.rest;
      part_is = c.kept_part-rest.ensures.value ∙ ap (λ ks. kept_part ks (dense_pair cell)) c.loop-cell.invariant.kept;
      read = to_z-of_z w128 c.kept_part-rest.result (search rules);
    }

-- the gain after a cell fits
pub overflow_sub-rest : goal.overflow_sub-rest
overflow_sub-rest c = let left = left_at c in omega (arith, ints, left-after left, left-room left)

pub share_of-requires : goal.share_of-requires
share_of-requires c =
    let left = left_at (goal.at.share_of-requires c).After-kept_part-rest in
    omega (arith, ap unsigned_abs (left-now left), ap unsigned_abs (left-before left), ap unsigned_abs (left-value left), left-room left)

-- what the row gives the sets of which the cell's rank is the least
shared_at : (c : After-share_of)
    → Left c.args.self.now.kept c.args.row.now c.loop-cell.cell-index past_cell (to_z w128 c.loop-cell.rest-bits) c.kept_part-rest.result
    → to_z w128 (of_z w128 c.share_of.result)
    ≡ subtree_share c.args.self.now.kept (get_or c.args.row.now.cells.now c.loop-cell.cell-index past_cell).rank (row_of c.args.row.now)
shared_at c left = to_z-of_z w128 c.share_of.result (search rules)
    ∙ left-share left c.share_of.result c.requires.ascending c.share_of.ensures

pub add-requires : goal.add-requires
add-requires c =
    let kept = c.args.self.now.kept in
    let i = c.loop-cell.cell-index in
    let cell = get_or c.args.row.now.cells.now i past_cell in
    let row = row_of c.args.row.now in
    let left = left_at (goal.at.add-requires c).After-kept_part-rest in
    let fresh = given-fresh kept (λ z. subtree_share kept z row) c.args.row.now.cells.now i past_cell c.requires.ascending c.loop-cell-test.true in
    omega (
      arith,
      ints,
      ap unsigned_abs (shared_at (goal.at.add-requires c).After-share_of left),
      fresh,
      c.loop-cell.invariant.value cell.rank,
      subtree_share-within kept cell.rank row,
      c.requires.fits cell.rank,
    )

pub loop-cell-preserved : goal.loop-cell-preserved
loop-cell-preserved c =
    let kept = c.args.self.now.kept in
    let i = c.loop-cell.cell-index in
    let cell = get_or c.args.row.now.cells.now i past_cell in
    let row = row_of c.args.row.now in
    let left = left_at (goal.at.loop-cell-preserved c).After-kept_part-rest in
    let shared = shared_at (goal.at.loop-cell-preserved c).After-share_of left in
    let given = λ (other : ℕ) (ks : List ℕ) (share : ℤ). value_at c.loop-cell.self.values other
    +ℤ cond (among other ks && eqb other cell.rank) share (pos 0) in
    let added : (other : ℕ) → value_at c.add.new.self.values other ≡ given other kept (subtree_share kept cell.rank row) =
    λ other. c.add.ensures.value other ∙ (λ j. given other (c.loop-cell.invariant.kept j) (shared j)) in
    record {
      kept = c.add.ensures.kept ∙ c.loop-cell.invariant.kept;
      len = c.add.ensures.len ∙ c.loop-cell.invariant.len;
      rest = left-now left;
      value = given-more kept (λ z. subtree_share kept z row) c.args.row.now.cells.now i past_cell c.args.self.now.values c.loop-cell.self.values
          c.add.new.self.values c.requires.ascending c.loop-cell-test.true c.loop-cell.invariant.value added;
    }
