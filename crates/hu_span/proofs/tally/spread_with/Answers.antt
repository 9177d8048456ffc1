use Rattle.std.proofs.Common.{◌≡◌, ◌∙◌, ◌+ℤ◌, ◌<◌, pos, sym, ap, arith, rules, SFits}
use Rattle.std.specs.Int.{w128}
use Rattle.std.proofs.lemmas.Int.{to_z-of_z}
use Rattle.hu_span.specs.Cut.{at_row}
use Rattle.hu_span.proofs.ToldLemmas.{spread-first, sum-some}
use Rattle.hu_span.proofs.tally.spread_with.Goals as goal
use Rattle.hu_span.proofs.tally.spread_with.Goals.{else-told-gt0-via-then-told-gt0+else-told-row, else-told-gt0-via-else-told-gt0}

pub returns : goal.returns
returns c =
    let t = c.args.told.now.tally in
    let s = c.in_ok-sum.sum in
    let r = c.in_ok-get.field-0.now in
    let fs : SFits w128 s = search rules in
    let fr : SFits w128 r = search rules in
    let here : r ≡ at_row c.args.reaches.now c.args.row = c.in_ok-get.ensures.lookup.3.1 (pos 0) in
    let differs : 0 < t.rows → t.row ≡ c.args.row → ⊥ = elim c.else-told-gt0.branch [
      | else-told-gt0-via-then-told-gt0+else-told-row w ↦ λ some same. w.if-told-row.false same
      | else-told-gt0-via-else-told-gt0 w ↦ λ some same. absurd (omega (arith, some, w.if-told-gt0.false))
    ] in
    let first = spread-first c.args.reaches.now t c.args.row differs in
    sum-some c.checked_add.result c.args.told.now.spread _ _ s _ c.checked_add.ensures c.in_ok-sum.was
    ((λ j. to_z-of_z w128 s fs j +ℤ to_z-of_z w128 r fr j) ∙ ap (λ n. s +ℤ n) (here ∙ sym first))
