use Rattle.std.proofs.Common.{◌≡◌, ◌-◌, ◌+◌, ◌<◌, ◌++◌, ◌∷◌, [], pos, ◌+ℤ◌, to_z, of_z, cond, eqb, length, get_or, take, drop, ◌∙◌, subst, arith}
use Rattle.std.specs.Int.{w128}
use Rattle.std.proofs.lemmas.Int.{ints}
use Rattle.std.proofs.lemmas.List.{take_all, length-drop}
use Rattle.hu_totals.specs.declared.ranked.Dense.{Dense}
use Rattle.hu_totals.specs.View.{cells_of}
use Rattle.hu_totals.proofs.lemmas.DenseLemmas.{value-within}
use Rattle.hu_average.specs.Tails.{left_from, tails_at}
use Rattle.hu_average.proofs.PassLemmas.{lists-back, tail-more}
use Rattle.hu_average.proofs.grow.add_tails.Goals as goal

no_cell : Dense
no_cell = record { rank = 0; value = pos 0 }

pub overflow_add-left : goal.overflow_add-left
unfolding no_cell
overflow_add-left c =
    let some = c.loop-place-test.true in
    let upto = c.loop-place.invariant.within in
    omega (arith, ints, value-within c.args.tail.now.cells.now (c.loop-place.place - 1) no_cell (omega (arith, some, upto)), c.requires.fits)

pub loop-place-preserved : goal.loop-place-preserved
unfolding no_cell
loop-place-preserved c =
    let tail = c.args.tail.now in
    let cells = tail.cells.now in
    let place = c.loop-place.place in
    let some = c.loop-place-test.true in
    let upto = c.loop-place.invariant.within in
    let inside : place - 1 < length cells = omega (arith, some, upto) in
    let one : place ≡ place - 1 + 1 = omega (arith, some) in
    let cell = get_or cells (place - 1) no_cell in
    let rest = drop (place - 1 + 1) cells in
    let same : take (length cells - (place - 1 + 1)) rest ≡ rest =
    take_all (length cells - (place - 1 + 1)) rest (omega (arith, length-drop (place - 1 + 1) cells)) in
    let size = value-within cells (place - 1) no_cell inside in
    let fits = c.requires.fits in
    let own : to_z w128 (of_z w128 (to_z w128 (of_z w128 tail.own) +ℤ to_z w128 (of_z w128 cell.value))) ≡ tail.own +ℤ cell.value =
    omega (arith, ints, size, fits) in
    let most : to_z w128 (of_z w128 tail.most) ≡ tail.most = omega (arith, ints, fits) in
    record {
      within = omega (arith, upto);
      len = c.add.ensures.len;
      lists = λ i within.
          let z = get_or c.args.slots.now.ranks i 0 in
          let old = tails_at c.args.lists.now.items i in
          let now = tails_at c.loop-place.lists.items i in
          let new = tails_at c.add.new.lists.items i in
          let was : now ≡ old ++ left_from z tail.own tail.most (cells_of (drop (place - 1 + 1) cells)) =
          subst (λ k. now ≡ old ++ left_from z tail.own tail.most (cells_of (drop k cells))) one (c.loop-place.invariant.lists i within) in
          let added : new ≡ now ++ cond (eqb z cell.rank) ((record { own = tail.own +ℤ cell.value; most = tail.most; cells = cells_of rest }) ∷ []) [] =
          tail-more c.args.slots.now.ranks c.loop-place.lists.items c.add.new.lists.items cell.rank _ c.requires.once
          c.loop-place.invariant.len c.add.ensures.len c.in_ok-add.ensures.added i within
          ∙ (λ j. now ++ cond (eqb z cell.rank) ((record { own = own j; most = most j; cells = cells_of (same j) }) ∷ []) []) in
          lists-back tail.own tail.most cells (place - 1) no_cell c.requires.rules.ascending inside z old now new was added;
    }
