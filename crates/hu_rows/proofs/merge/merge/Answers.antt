use Rattle.std.proofs.Common.{◌≡◌, ◌∙◌, sym, ap, subst}
use Rattle.hu_rows.specs.Rows.{AreRows}
use Rattle.hu_rows.specs.Merging.{merged, IsMerging}
use Rattle.hu_rows.specs.View.{rows_of}
use Rattle.hu_rows.proofs.MergingLemmas.{AreRows-merged}
use Rattle.hu_rows.proofs.SortedRows.{AreRows-sorted, IsMerging-sorted}
use Rattle.hu_rows.proofs.merge.merge.Goals as goal

pub merge_sorted-requires : goal.merge_sorted-requires
merge_sorted-requires c =
    let rows = c.args.rows.items in
    let sorted = c.put_in_order.new.rows.items in
    subst (λ rs. AreRows (rows_of rs)) (sym c.as_slice.ensures.value) (AreRows-sorted rows sorted c.put_in_order.ensures.permutation c.requires)

pub over-requires : goal.over-requires
over-requires c =
    let rows = c.args.rows.items in
    let sorted = c.put_in_order.new.rows.items in
    let same : rows_of c.in_ok-try_alloc_slice_copy.field-0.now ≡ merged (rows_of sorted) =
    ap rows_of (c.in_ok-try_alloc_slice_copy.ensures ∙ c.as_slice-2.ensures.value) ∙ c.in_ok-merged.ensures
    ∙ ap (λ rs. merged (rows_of rs)) c.as_slice.ensures.value in
    subst AreRows (sym same) (AreRows-merged (rows_of sorted) (AreRows-sorted rows sorted c.put_in_order.ensures.permutation c.requires))

pub returns : goal.returns
returns c =
    let rows = c.args.rows.items in
    let sorted = c.put_in_order.new.rows.items in
    let same : rows_of c.in_ok-try_alloc_slice_copy.field-0.now ≡ merged (rows_of sorted) =
    ap rows_of (c.in_ok-try_alloc_slice_copy.ensures ∙ c.as_slice-2.ensures.value) ∙ c.in_ok-merged.ensures
    ∙ ap (λ rs. merged (rows_of rs)) c.as_slice.ensures.value in
    subst (IsMerging (rows_of rows)) (sym (c.over.ensures ∙ same))
    (IsMerging-sorted rows sorted c.put_in_order.ensures.permutation c.put_in_order.ensures.sorted)
