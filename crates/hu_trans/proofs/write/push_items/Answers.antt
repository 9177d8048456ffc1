use Rattle.std.proofs.Common.{pos, ap, ◌∙◌, decimal, rules, FitsSigned}
use Rattle.std.specs.Fmt.{signed_decimal}
use Rattle.std.specs.Int.{w128}
use Rattle.std.proofs.lemmas.Int.{to_z-of_z}
use Rattle.hu_kind.specs.declared.item.Cell.{Cell}
use Rattle.hu_trans.proofs.WriteLemmas.{written-more}
use Rattle.hu_trans.proofs.write.push_items.Goals as goal

pub loop-at-preserved : goal.loop-at-preserved
loop-at-preserved c =
    let none : Cell = record { item = record { 0 = 0 }; value = pos 0 } in
    let fits : FitsSigned w128 c.from.result = search rules in
    written-more (λ cell. decimal cell.0) c.args.cells.now c.loop-at.at none _ _ _ _ c.loop-at-test.true
    c.loop-at.invariant (ap signed_decimal (to_z-of_z w128 c.from.result fits ∙ c.from.ensures))
    c.in_ok-push_next.ensures
