use Rattle.std.proofs.Common.{FitsSigned, pos, rules, None, Some, Ok, sym, ap, ◌∙◌, inr}
use Rattle.std.specs.Int.{w128}
use Rattle.std.proofs.lemmas.Int.{to_z-of_z}
use Rattle.hu_kind.specs.Cell.{pairs_of}
use Rattle.hu_kind.specs.Cells.{by_item}
use Rattle.hu_kind.specs.Record.{absolute_of}
use Rattle.hu_kind.specs.First.{first_some}
use Rattle.hu_trans.proofs.CellLemmas.{absolute_of-permutation, twice-zip, IsRecord-ordered}
use Rattle.hu_trans.proofs.JudgedLemmas.{sum_faults, judged-twice, judged-sums, AreFine-from_none, small_from_none}
use Rattle.hu_trans.proofs.judge.judge.Goals as goal

pub cells_of-requires-clause-in_range : goal.cells_of-requires-clause-in_range
cells_of-requires-clause-in_range c =
    (AreFine-from_none c.args.items.now c.args.utilities.now (sym c.in_default.ensures)).in_range

pub returns-in-Err-clause-err : goal.returns-in-Err-clause-err
returns-in-Err-clause-err c =
    let none = sym c.in_default.ensures in
    let fine = AreFine-from_none c.args.items.now c.args.utilities.now none in
    let told = twice-zip c.in_ok-cells.cells.items c.args.items.now c.args.utilities.now c.in_ok-cells.ensures fine.same in
    inr (judged-twice c.args.items.now c.args.stated c.args.utilities.now c.in-Err.item.0 none (sym told ∙ c.in-Err.ensures.twice))

pub with_sum-requires-clause-rules : goal.with_sum-requires-clause-rules
with_sum-requires-clause-rules c =
    let fine = AreFine-from_none c.args.items.now c.args.utilities.now (sym c.in_default.ensures) in
    let same = to_z-of_z w128 c.args.stated c.ranges.stated in
    let cells = ap pairs_of c.deref.ensures.value in
    let small = small_from_none c.args.stated (pairs_of c.deref.result.now) (rw same at (sym c.in-Ok-sum.ensures.fault)) in
    IsRecord-ordered c.in_ok-cells.cells.items c.in-Ok.cells.items c.args.items.now c.args.utilities.now
    c.in_ok-cells.ensures fine c.in-Ok.ensures.permutation c.in-Ok.ensures.ascending (rw cells at small)

pub with_sum-requires-clause-sum : goal.with_sum-requires-clause-sum
with_sum-requires-clause-sum c =
    let fits : FitsSigned w128 c.in-Ok-sum.absolute = search rules in
    to_z-of_z w128 c.in-Ok-sum.absolute fits
    ∙ c.in-Ok-sum.ensures.value
    ∙ ap (λ cells. pos (absolute_of (pairs_of cells))) c.deref.ensures.value
    ∙ ap pos (sym (absolute_of-permutation c.in_ok-cells.cells.items c.in-Ok.cells.items c.in-Ok.ensures.permutation))

pub returns-in-Ok-sum-clause-ok : goal.returns-in-Ok-sum-clause-ok
returns-in-Ok-sum-clause-ok c =
    let none = sym c.in_default.ensures in
    let fine = AreFine-from_none c.args.items.now c.args.utilities.now none in
    let told = twice-zip c.in_ok-cells.cells.items c.args.items.now c.args.utilities.now c.in_ok-cells.ensures fine.same in
    let same = to_z-of_z w128 c.args.stated c.ranges.stated in
    let cells = sym (ap pairs_of c.deref.ensures.value ∙ c.in_ok-cells.ensures) in
    let first = ap (λ pairs. first_some (sum_faults c.args.stated pairs)) cells ∙ rw same at (sym c.in-Ok-sum.ensures.fault) in
    let value = ap by_item (sym c.in_ok-cells.ensures) ∙ sym c.in-Ok.ensures.value ∙ sym c.with_sum.ensures in
    judged-sums c.args.items.now c.args.stated c.args.utilities.now None none (sym told ∙ c.in-Ok.ensures.once) first ∙ ap Ok value

pub returns-in-Err-sum-clause-err : goal.returns-in-Err-sum-clause-err
returns-in-Err-sum-clause-err c =
    let none = sym c.in_default.ensures in
    let fine = AreFine-from_none c.args.items.now c.args.utilities.now none in
    let told = twice-zip c.in_ok-cells.cells.items c.args.items.now c.args.utilities.now c.in_ok-cells.ensures fine.same in
    let same = to_z-of_z w128 c.args.stated c.ranges.stated in
    let cells = sym (ap pairs_of c.deref.ensures.value ∙ c.in_ok-cells.ensures) in
    let first = ap (λ pairs. first_some (sum_faults c.args.stated pairs)) cells ∙ rw same at (sym c.in-Err-sum.ensures.fault) in
    inr (judged-sums c.args.items.now c.args.stated c.args.utilities.now (Some c.in-Err-sum.fault) none (sym told ∙ c.in-Ok.ensures.once) first)
