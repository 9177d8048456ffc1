use Rattle.std.proofs.Common.{◌≡◌, pos, refl, sym, ap, ◌∙◌, inl, inr, sum_by, arith}
use Rattle.std.specs.List.{AllZip}
use Rattle.std.proofs.lemmas.Int.{ints, to_z-of_z}
use Rattle.std.proofs.lemmas.Result.{err_from_is_err_and}
use Rattle.hu_kind.specs.Record.{absolute_of, total}
use Rattle.hu_seq.specs.declared.fault.SeqFault.TheVariants.{SumTooLarge}
use Rattle.hu_seq.specs.Reading.{body, cells, itemsets}
use Rattle.hu_seq.specs.Itemset.{IsOrdered}
use Rattle.hu_seq.proofs.ShapeLemmas.{IsShaped-from}
use Rattle.hu_seq.proofs.SumLemmas.{ordered-once, ordered-value}
use Rattle.hu_seq.proofs.FaultLemmas.{AreTold-from, sound-parts, sum_too_large-from, sum_too_large-no, faults-order}
use Rattle.hu_seq.proofs.FaultLemmas.{faults-items, faults-twice, faults-negative, faults-sum, faults-total}
use Rattle.hu_seq.proofs.read.sequence.Goals as goal

pub elements-requires : goal.elements-requires
elements-requires c =
    let told = c.args.tokens.now in
    rw c.in_ok-part.ensures.value (sound-parts told (IsShaped-from told c.in_ok-part.ensures.ok) (sym c.in_ok-check_items.ensures))

pub check_total-requires : goal.check_total-requires
check_total-requires c =
    let told = c.args.tokens.now in
    let elements = c.in_ok-elements.elements.items in
    let ordered : AllZip IsOrdered (itemsets (body told)) elements = rw c.in_ok-part.ensures.value at c.in_ok-elements.ensures.ok in
    let kept =
    AreTold-from told elements (IsShaped-from told c.in_ok-part.ensures.ok)
    (sym c.in_ok-check_items.ensures) ordered (sym c.in_ok-check_values.ensures) in
    let sum : c.absolute.result ≡ total (cells told) = c.absolute.ensures.value
    ∙ ap (λ one. pos (sum_by absolute_of one)) c.in-Some.ensures.value ∙ sym kept.sum in
    grind (arith, ints, to_z-of_z)

pub returns-in_err-part-clause-err : goal.returns-in_err-part-clause-err
returns-in_err-part-clause-err c =
    let p = err_from_is_err_and c.from_residual.result c.from_residual.ensures.1 in
    rw (p.1, p.2) (inr (faults-order c.args.tokens.now c.in_err-part.field-0.0 c.in_err-part.ensures.err))

pub returns-in_err-check_items-clause-err : goal.returns-in_err-check_items-clause-err
returns-in_err-check_items-clause-err c =
    let p = err_from_is_err_and c.from_residual-in_err-check_items.result c.from_residual-in_err-check_items.ensures.1 in
    rw (p.1, p.2) (inr (faults-items c.args.tokens.now c.in_err-check_items.field-0.0 c.in_ok-part.ensures.ok (sym c.in_err-check_items.ensures)))

pub returns-in_err-elements-clause-err : goal.returns-in_err-elements-clause-err
returns-in_err-elements-clause-err c =
    let told = c.args.tokens.now in
    let p = err_from_is_err_and c.from_residual-in_err-elements.result c.from_residual-in_err-elements.ensures.1 in
    rw (p.1, p.2) (elim c.in_err-elements.ensures.err [
      | inl memory ↦ inl memory
      | inr twice ↦ inr (faults-twice told c.in_err-elements.field-0.0 c.in_ok-part.ensures.ok
          (sym c.in_ok-check_items.ensures) (rw c.in_ok-part.ensures.value at twice))
    ])

pub returns-in_err-check_values-clause-err : goal.returns-in_err-check_values-clause-err
returns-in_err-check_values-clause-err c =
    let told = c.args.tokens.now in
    let elements = c.in_ok-elements.elements.items in
    let ordered : AllZip IsOrdered (itemsets (body told)) elements = rw c.in_ok-part.ensures.value at c.in_ok-elements.ensures.ok in
    let p = err_from_is_err_and c.from_residual-in_err-check_values.result c.from_residual-in_err-check_values.ensures.1 in
    rw (p.1, p.2)
    (inr (faults-negative told c.in_err-check_values.field-0.0 c.in_ok-part.ensures.ok
    (sym c.in_ok-check_items.ensures) (ordered-once (itemsets (body told)) elements ordered)
    (sym c.in_err-check_values.ensures)))

pub returns-in_default-clause-err : goal.returns-in_default-clause-err
returns-in_default-clause-err c =
    let told = c.args.tokens.now in
    let elements = c.in_ok-elements.elements.items in
    let ordered : AllZip IsOrdered (itemsets (body told)) elements = rw c.in_ok-part.ensures.value at c.in_ok-elements.ensures.ok in
    let kept =
    AreTold-from told elements (IsShaped-from told c.in_ok-part.ensures.ok)
    (sym c.in_ok-check_items.ensures) ordered (sym c.in_ok-check_values.ensures) in
    inr (faults-sum told SumTooLarge c.in_ok-part.ensures.ok (sym c.in_ok-check_items.ensures)
    (ordered-once (itemsets (body told)) elements ordered) (sym c.in_ok-check_values.ensures)
    (sum_too_large-from told elements kept (λ sequence. let never = c.in_default.ensures.valid.1 sequence in cc)))

pub returns-in_err-check_total-clause-err : goal.returns-in_err-check_total-clause-err
returns-in_err-check_total-clause-err c =
    let told = c.args.tokens.now in
    let elements = c.in_ok-elements.elements.items in
    let ordered : AllZip IsOrdered (itemsets (body told)) elements = rw c.in_ok-part.ensures.value at c.in_ok-elements.ensures.ok in
    let kept =
    AreTold-from told elements (IsShaped-from told c.in_ok-part.ensures.ok)
    (sym c.in_ok-check_items.ensures) ordered (sym c.in_ok-check_values.ensures) in
    let fits = sum_too_large-no told elements kept (c.in-Some.ensures.valid.0 refl).sum_fits in
    let p = err_from_is_err_and c.from_residual-in_err-check_total.result c.from_residual-in_err-check_total.ensures.1 in
    rw (p.1, p.2)
    (inr (faults-total told c.in_ok-part.ensures.ok (sym c.in_ok-check_items.ensures)
    (ordered-once (itemsets (body told)) elements ordered) (sym c.in_ok-check_values.ensures) fits
    ∙ sym c.in_err-check_total.ensures))

pub returns-clause-value : goal.returns-clause-value
returns-clause-value c =
    let told = c.args.tokens.now in
    let elements = c.in_ok-elements.elements.items in
    let ordered : AllZip IsOrdered (itemsets (body told)) elements = rw c.in_ok-part.ensures.value at c.in_ok-elements.ensures.ok in
    c.in-Some.ensures.value ∙ ordered-value (itemsets (body told)) elements ordered

pub returns-clause-ok : goal.returns-clause-ok
returns-clause-ok c =
    let told = c.args.tokens.now in
    let elements = c.in_ok-elements.elements.items in
    let ordered : AllZip IsOrdered (itemsets (body told)) elements = rw c.in_ok-part.ensures.value at c.in_ok-elements.ensures.ok in
    let kept =
    AreTold-from told elements (IsShaped-from told c.in_ok-part.ensures.ok)
    (sym c.in_ok-check_items.ensures) ordered (sym c.in_ok-check_values.ensures) in
    let fits = sum_too_large-no told elements kept (c.in-Some.ensures.valid.0 refl).sum_fits in
    faults-total told c.in_ok-part.ensures.ok (sym c.in_ok-check_items.ensures)
    (ordered-once (itemsets (body told)) elements ordered) (sym c.in_ok-check_values.ensures) fits
    ∙ sym c.in_ok-check_total.ensures
