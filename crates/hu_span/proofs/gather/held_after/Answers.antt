use Rattle.std.proofs.Common.{◌∙◌, ◌++◌, [], sym, ap, subst}
use Rattle.hu_chain.specs.declared.chain.Growth.TheVariants.{AfterLast}
use Rattle.hu_chain.specs.Pattern.{last_item}
use Rattle.hu_span.specs.Child.{ArePlaces}
use Rattle.hu_span.specs.Kept.{weighed_of}
use Rattle.hu_span.specs.Trail.{AreSpans}
use Rattle.hu_span.proofs.RowsLemmas.{grown-kept, rows-end, rows-first, rows-next, AreRowsLeft}
use Rattle.hu_span.proofs.SpanLemmas.{spans-append}
use Rattle.hu_span.proofs.WalkLemmas.{stays-fit}
use Rattle.hu_span.proofs.WeighedLemmas.{weighed-rules}
use Rattle.hu_span.proofs.gather.held_after.Goals as goal

pub rows-init : goal.rows-init
rows-init c keep records p are = (
  rows-first (weighed_of keep records) keep p c.as_slice-left.result.now c.new-grown.result.marks.items
      (subst (ArePlaces (weighed_of keep records) p (last_item p)) (sym c.as_slice-left.ensures.value) are.places) c.new-grown.ensures.marks,
  subst (λ ms. AreSpans keep records c.args.trail.now ms c.new-grown.result.spans.items) (sym c.new-grown.ensures.marks)
      (subst (AreSpans keep records c.args.trail.now []) (sym c.new-grown.ensures.spans) tt),
)

pub rows-preserved : goal.rows-preserved
rows-preserved c keep records p are =
    let old = c.rows.grown in
    let new = c.push_later.new.held in
    let row = c.in-Some.row in
    let pushed = c.in_ok-push_later.ensures.marks in
    let so_far = c.rows.invariant keep records p are in
    let rows = so_far.0 in
    let own = c.in-Some.ensures.walked keep records p are rows.rest in
    let fit = stays-fit old.marks.items new.marks.items _ pushed c.in-Some.ensures.later rows.fit in (
      rows-next (weighed_of keep records) keep p row c.rows.left.now old.marks.items new.marks.items c.in-Some.ensures.row rows
          (pushed ∙ ap (λ ms. old.marks.items ++ ms) own.marks) fit,
      subst (λ ms. AreSpans keep records c.args.trail.now ms new.spans.items) (sym pushed)
          (subst (AreSpans keep records c.args.trail.now _) (sym c.in_ok-push_later.ensures.spans)
          (spans-append keep records c.args.trail.now old.marks.items _ old.spans.items _ so_far.1 own.spans)),
    )

pub returns : goal.returns
returns c keep records p are =
    let rs = weighed_of keep records in
    let so_far = c.rows.invariant keep records p are in
    let left = subst (λ ms. AreRowsLeft rs keep p ms c.rows.grown.marks.items) c.in_default.ensures.row so_far.0 in
    record {
      grown = grown-kept keep AfterLast rs p c.rows.grown.marks.items (weighed-rules keep records are.are.rules) are.reached
          (rows-end rs keep p c.rows.grown.marks.items left) left.fit;
      spans = so_far.1;
    }
