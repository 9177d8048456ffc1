use Rattle.std.proofs.Common.{◌≡◌, sym, ◌∙◌, ◌⊎◌, inl, inr, arith}
use Rattle.hu_rows.proofs.RankOrder.{compare-step, compare-same, compare-other, compare-ends}
use Rattle.hu_rows.proofs.PastEnd.{past_cell}
use Rattle.hu_rows.proofs.merge.compare.Goals as goal
use Rattle.hu_rows.proofs.merge.compare.Goals.{then-loop-left-test+else-right-gt0, else-loop-left-test}

pub loop-left-preserved : goal.loop-left-preserved
loop-left-preserved c =
    let step = compare-step c.args.a.now.cells.now c.args.b.now.cells.now c.loop-left.left c.loop-left.right past_cell past_cell c.loop-left-test.true
    c.loop-left.invariant.left c.if-right-gt0.true c.loop-left.invariant.right in
    record {
      left = omega arith;
      right = omega arith;
      same = compare-same _ _ _ _ step (sym c.in-Equal.is ∙ c.cmp.ensures) c.loop-left.invariant.same;
    }

pub returns-in_default : goal.returns-in_default
returns-in_default c =
    let step = compare-step c.args.a.now.cells.now c.args.b.now.cells.now c.loop-left.left c.loop-left.right past_cell past_cell c.loop-left-test.true
    c.loop-left.invariant.left c.if-right-gt0.true c.loop-left.invariant.right in
    c.cmp.ensures ∙ compare-other _ _ _ _ step (λ e. c.in_default.not-Equal (c.cmp.ensures ∙ e)) c.loop-left.invariant.same

pub returns : goal.returns
returns c =
    let end : (c.loop-left.left ≡ 0) ⊎ (c.loop-left.right ≡ 0) = elim c.loop-left-test.branch [
      | then-loop-left-test+else-right-gt0 w ↦ inr (omega arith)
      | else-loop-left-test w ↦ inl (omega arith)
    ] in
    c.cmp-2.ensures
    ∙ sym (compare-ends c.args.a.now.cells.now c.args.b.now.cells.now c.loop-left.left c.loop-left.right c.loop-left.invariant.left
    c.loop-left.invariant.right end) ∙ c.loop-left.invariant.same
