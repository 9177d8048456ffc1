use Rattle.std.proofs.Common.{◌≡◌, ◌+◌, arith, ◌++◌, ◌∷◌, [], pos, drop, get_or, to_z, of_z, append_assoc, sym, ap, ◌∙◌}
use Rattle.std.specs.Int.{w128}
use Rattle.std.proofs.lemmas.Int.{ints}
use Rattle.hu_kind.specs.declared.item.Cell.{Cell}
use Rattle.hu_kind.specs.Cell.{pairs_of}
use Rattle.hu_proof.specs.Slots.{slotted, slotted_one}
use Rattle.hu_proof.proofs.CellLemmas.{value-within}
use Rattle.hu_proof.proofs.SlotLemmas.{slotted-more}
use Rattle.hu_proof.proofs.slots.fill.Goals as goal
use Rattle.hu_proof.proofs.slots.fill.Goals.{in-Some+in_ok-push, in_default}

-- a cell past the end
no_cell : Cell
no_cell = record { item = record { 0 = 0 }; value = pos 0 }

pub loop-cell-preserved : goal.loop-cell-preserved
unfolding no_cell
loop-cell-preserved c =
    let named = c.args.named.now in
    let cells = c.args.cells.now in
    let i = c.loop-cell.cell-index in
    let old = c.loop-cell.values.items in
    let value = (get_or cells i no_cell).value in
    let rest = slotted named (pairs_of (drop (i + 1) cells)) in
    let same : to_z w128 (of_z w128 value) ≡ value =
    omega (arith, ints, value-within cells i no_cell c.loop-cell-test.true, c.requires) in
    let more = slotted-more named cells i no_cell c.loop-cell-test.true in
    elim c.match-rank_of.branch [
      | in-Some+in_ok-push w ↦ ap (λ v. v.items ++ rest) w.values-is ∙ (ap (λ xs. xs ++ rest) w.in_ok-push.ensures.items
          ∙ (ap (λ v. (old ++ record { slot = w.in-Some.slot; value = v } ∷ []) ++ rest) same
          ∙ append_assoc old (record { slot = w.in-Some.slot; value = value } ∷ []) rest
          ∙ (ap (λ ys. old ++ ys) (ap (λ o. slotted_one o value ++ rest) w.in-Some.ensures ∙ sym more) ∙ c.loop-cell.invariant)))
      | in_default w ↦ ap (λ v. v.items ++ rest) w.values-is
          ∙ (ap (λ ys. old ++ ys) (ap (λ o. slotted_one o value ++ rest) w.in_default.ensures ∙ sym more) ∙ c.loop-cell.invariant)
    ]
