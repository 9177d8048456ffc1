use Rattle.std.proofs.Common.{◌≡◌, ℕ, pos, ◌+ℤ◌, ◌+◌, ◌<◌, ◌++◌, ◌∷◌, [], List, cond, eqb, drop, get_or, length, map, ◌∙◌, arith, to_z, of_z}
use Rattle.std.specs.Int.{w128}
use Rattle.std.proofs.lemmas.Int.{ints}
use Rattle.hu_totals.specs.declared.ranked.Dense.{Dense}
use Rattle.hu_totals.specs.View.{dense_pair}
use Rattle.hu_certify.specs.Slots.{kept, list_at}
use Rattle.hu_certify.specs.Spots.{SpotOf}
use Rattle.hu_certify.proofs.ListLemmas.{list-next}
use Rattle.hu_certify.proofs.SlotLemmas.{cell-at, cell-within}
use Rattle.hu_certify.proofs.SpotLemmas.{range_left}
use Rattle.hu_certify.proofs.lists.hand_place.Goals as goal

-- a cell past the end
abbrev no_cell : Dense
no_cell = record { rank = 0; value = pos 0 }

pub overflow_add-left-in-loop-at : goal.overflow_add-left-in-loop-at
overflow_add-left-in-loop-at c =
    omega (arith, ints, c.requires.fits, cell-within c.args.place.now.rest.now c.loop-at.at no_cell c.loop-at-test.true)

pub hand-requires-clause-within : goal.hand-requires-clause-within
hand-requires-clause-within c =
    cell-at (λ cell. cell.0 < length c.args.slots.now) c.args.place.now.rest.now c.loop-at.at no_cell c.requires.ranks c.loop-at-test.true

pub loop-at-preserved : goal.loop-at-preserved
loop-at-preserved c =
    let cells = c.args.place.now.rest.now in
    let own = c.args.place.now.own in
    let slots = c.args.slots.now in
    let least = to_z w128 (of_z w128 c.args.least) in
    let i = c.loop-at.at in
    let within = c.loop-at-test.true in
    let cell = get_or cells i no_cell in
    let rest = range_left cells (i + 1) in
    let sum : to_z w128 (of_z w128 (to_z w128 (of_z w128 own) +ℤ to_z w128 (of_z w128 cell.value))) ≡ own +ℤ cell.value =
    omega (arith, ints, c.requires.fits, cell-within cells i no_cell within) in
    let old : ℕ → List SpotOf = λ z. list_at c.loop-at.lists.items z in
    let new : ℕ → List SpotOf = λ z. list_at c.hand.new.lists.items z in
    let added : (z : ℕ) → new z
    ≡ cond (eqb z cell.rank) (old z ++ kept least slots z ((map dense_pair (drop (i + 1) cells), own +ℤ cell.value) ∷ [])) (old z) =
    λ z. c.in_ok-hand.ensures.lists z ∙ (λ j. cond (eqb z cell.rank) (old z ++ kept least slots z ((map dense_pair (rest j), sum j) ∷ [])) (old z)) in
    record {
      len = c.in_ok-hand.ensures.length ∙ c.loop-at.invariant.len;
      lists = λ z. list-next least slots cells i no_cell own c.requires.ascending within z (old z) (new z) (added z) ∙ c.loop-at.invariant.lists z;
    }
