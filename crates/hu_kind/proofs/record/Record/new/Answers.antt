use Rattle.std.proofs.Common.{pos, refl, rules, subst, sym, ap, ◌∙◌, sum_by, FitsSigned}
use Rattle.std.specs.Int.{w128}
use Rattle.std.proofs.lemmas.Int.{to_z-of_z}
use Rattle.hu_kind.specs.Cell.{absolute_value, AreRecord}
use Rattle.hu_kind.proofs.lemmas.RecordLemmas.{IsRecord-from_cells, IsRecord-to_cells, absolute_of-pairs_of}
use Rattle.hu_kind.proofs.record.Record.new.Goals as goal

pub returns-in_err-absolute-clause-valid : goal.returns-in_err-absolute-clause-valid
returns-in_err-absolute-clause-valid c = (
  λ never. let none = rw c.from_residual.ensures at never in absurd (cc),
  λ h. absurd (c.in_err-absolute.ensures (subst AreRecord (sym c.deref.ensures.value) (IsRecord-to_cells _ h))),
)

pub invariant_of-result : goal.invariant_of-result
invariant_of-result c =
    let fits : FitsSigned w128 c.in_ok-absolute.absolute = search rules in (
      IsRecord-from_cells _ (subst AreRecord c.deref.ensures.value (c.in_ok-absolute.ensures).0),
      to_z-of_z w128 c.in_ok-absolute.absolute fits
          ∙ (c.in_ok-absolute.ensures).1
          ∙ ap (λ cells. pos (sum_by absolute_value cells)) c.deref.ensures.value
          ∙ ap pos (sym (absolute_of-pairs_of c.args.cells.items)),
    )

pub returns-clause-valid : goal.returns-clause-valid
returns-clause-valid c = (λ _. IsRecord-from_cells _ (subst AreRecord c.deref.ensures.value (c.in_ok-absolute.ensures).0), λ _. refl)
