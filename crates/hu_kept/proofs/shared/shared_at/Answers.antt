use Rattle.std.proofs.Common.{◌≡◌, ◌∙◌, ℕ, ◌<◌, ℤ, List, length, ap, sym, subst, arith, Result, Ok, Err, IfOk, Vec, Global}
use Rattle.std.proofs.lemmas.List.{length-map}
use Rattle.hu_kind.specs.declared.item.Cell.{Cell}
use Rattle.hu_kind.specs.Cell.{pair_of, pairs_of}
use Rattle.hu_kind.specs.Record.{IsRecord}
use Rattle.hu_kept.specs.Shared.{occurs_in, shared_cells}
use Rattle.hu_kept.proofs.SharedRecords.{IsRecord-filter}
use Rattle.hu_kept.proofs.shared.shared_at.Goals as goal

-- cells that a record shares with a batch are a record, where there are any
rules-shared : {E : Type 0} (batch : List (List (ℕ × ℤ))) (one seen : List (ℕ × ℤ)) (result : Result (Vec Cell Global) E) → seen ≡ one → IsRecord one
    → IfOk result (λ cells. pairs_of cells.items ≡ shared_cells batch seen) → IfOk result (λ cells. 0 < length cells.items → IsRecord (pairs_of cells.items))
rules-shared batch one seen (Err e) same rules is = tt
rules-shared batch one seen (Ok cells) same rules is = λ some.
    let left : pairs_of cells.items ≡ shared_cells batch one = is ∙ ap (shared_cells batch) same in
    let some' : 0 < length (shared_cells batch one) = subst (λ cs. 0 < length cs) left (omega (arith, length-map cells.items pair_of, some)) in
    subst IsRecord (sym left) (IsRecord-filter (λ cell. occurs_in batch cell.0) one rules some')

pub returns-in-Some-clause-rules : goal.returns-in-Some-clause-rules
returns-in-Some-clause-rules c =
    rules-shared c.args.batch.now c.in-Some.one.now (pairs_of c.cells.result.now) c.shared_cells.result
    c.cells.ensures.value c.cells.ensures.rules c.shared_cells.ensures
