use Rattle.std.proofs.Common.{sym, subst, arith, ◌||◌, take, get_or, eqb, pos, ◌≤◌, length}
use Rattle.std.proofs.lemmas.List.{take_all}
use Rattle.hu_kind.specs.declared.item.Cell.{Cell}
use Rattle.hu_kind.specs.Cell.{pairs_of}
use Rattle.hu_kind.specs.Record.{has}
use Rattle.hu_proof.specs.Judged.{IsLowest}
use Rattle.hu_proof.proofs.Lowest.{IsLowest-as, lowest-lower, lowest-same, has-more}
use Rattle.hu_proof.proofs.children.lowest.Goals as goal
use Rattle.hu_proof.proofs.children.lowest.Goals.{in-Some, in_default}

-- a cell past the end
no_cell : Cell
no_cell = record { item = record { 0 = 0 }; value = pos 0 }

pub loop-cell-preserved : goal.loop-cell-preserved
unfolding no_cell
loop-cell-preserved c =
    let order = c.args.order.now in
    let named = c.args.named.now in
    let from = c.args.from in
    let cells = c.args.cells.now in
    let i = c.loop-cell.cell-index in
    let x = (get_or cells i no_cell).item.0 in
    elim c.match-lower.branch [
      | in-Some w ↦ record {
        within = subst (λ low. low ≤ length order) (sym w.low-is) (omega (arith, w.in-Some.ensures.some.within));
        value = λ test h. subst (IsLowest order named from (λ item. test item || has item (pairs_of (take _ cells)))) (sym w.low-is)
            (IsLowest-as order named from _ (λ item. (test item || has item (pairs_of (take i cells))) || eqb item x) _
            (λ item. has-more cells i no_cell test item c.loop-cell-test.true)
            (lowest-lower order named from c.loop-cell.low x _ (λ item. test item || has item (pairs_of (take i cells))) c.requires.apart
            (c.loop-cell.invariant.value test h) w.in-Some.ensures.some));
      }
      | in_default w ↦ record {
        within = subst (λ low. low ≤ length order) (sym w.low-is) c.loop-cell.invariant.within;
        value = λ test h. subst (IsLowest order named from (λ item. test item || has item (pairs_of (take _ cells)))) (sym w.low-is)
            (IsLowest-as order named from _ (λ item. (test item || has item (pairs_of (take i cells))) || eqb item x) _
            (λ item. has-more cells i no_cell test item c.loop-cell-test.true)
            (lowest-same order named from c.loop-cell.low x (λ item. test item || has item (pairs_of (take i cells)))
            (c.loop-cell.invariant.value test h) w.in_default.ensures.none));
      }
    ]

pub returns-clause-value : goal.returns-clause-value
returns-clause-value c test h =
    let all = take_all c.loop-cell.cell-index c.args.cells.now c.loop-cell-test.false in
    subst (λ cells. IsLowest c.args.order.now c.args.named.now c.args.from (λ item. test item || has item (pairs_of cells)) c.loop-cell.low) all
    (c.loop-cell.invariant.value test h)
