use Rattle.std.proofs.Common.{◌≡◌, ◌∙◌, ◌∷◌, ◌++◌, [], ℤ, sym, ap, subst, rules}
use Rattle.std.specs.Int.{w128}
use Rattle.std.proofs.lemmas.Int.{to_z-of_z}
use Rattle.hu_rows.specs.Rows.{AreRows}
use Rattle.hu_rows.specs.View.{row_with, rows_of}
use Rattle.hu_rows.proofs.CellChecks.{AreRows-rules, rules-AreRows}
use Rattle.hu_rows.proofs.rows.Rows.more.Goals as goal

pub returns-then-not-are_rows-clause-valid : goal.returns-then-not-are_rows-clause-valid
returns-then-not-are_rows-clause-valid c =
    let row = λ (before : ℤ). row_with before c.args.count c.args.cells.now in
    let whole : rows_of c.as_slice.result.now ≡ c.args.self.now ++ row c.args.before ∷ [] =
    ap rows_of c.as_slice.ensures.value ∙ c.in_ok-rows.ensures ∙ (λ j. c.self.view_is j ++ row (to_z-of_z w128 c.args.before c.ranges.before j) ∷ []) in
    (λ never. absurd (cc), λ h. sym c.if-not-are_rows.true ∙ c.are_rows.ensures.1 (rules-AreRows c.as_slice.result.now (subst AreRows (sym whole) h)))

pub over-requires : goal.over-requires
over-requires c =
    subst (λ rs. AreRows (rows_of rs)) (sym (c.in_ok-try_alloc_slice_copy.ensures ∙ c.as_slice-2.ensures.value ∙ sym c.as_slice.ensures.value))
    (AreRows-rules c.as_slice.result.now (c.are_rows.ensures.0 (search rules)))
