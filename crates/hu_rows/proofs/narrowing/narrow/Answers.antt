use Rattle.std.proofs.Common.{◌≡◌, ◌∙◌, ap, sym, subst}
use Rattle.std.specs.Int.{w128}
use Rattle.std.proofs.lemmas.Int.{to_z-of_z}
use Rattle.hu_rows.specs.Rows.{AreRows}
use Rattle.hu_rows.specs.Handed.{reaches, narrowed}
use Rattle.hu_rows.specs.View.{rows_of}
use Rattle.hu_rows.proofs.lemmas.Narrowed.{AreRows-narrowed}
use Rattle.hu_rows.proofs.narrowing.narrow.Goals as goal

pub over-requires : goal.over-requires
over-requires c =
    let p = reaches c.args.tallies.now c.args.floor in
    let same : rows_of c.in_ok-try_alloc_slice_copy.field-0.now ≡ narrowed p c.args.rows.now =
    ap rows_of (c.in_ok-try_alloc_slice_copy.ensures ∙ c.as_slice.ensures.value) ∙ c.in_ok-narrowed.ensures
    ∙ (λ j. narrowed (reaches c.args.tallies.now (to_z-of_z w128 c.args.floor c.ranges.floor j)) (c.rows.ensures.value j)) in
    subst AreRows (sym same) (AreRows-narrowed p c.args.rows.now c.rows.ensures.rules)

pub returns : goal.returns
returns c =
    c.over.ensures ∙ ap rows_of (c.in_ok-try_alloc_slice_copy.ensures ∙ c.as_slice.ensures.value) ∙ c.in_ok-narrowed.ensures
    ∙ (λ j. narrowed (reaches c.args.tallies.now (to_z-of_z w128 c.args.floor c.ranges.floor j)) (c.rows.ensures.value j))
