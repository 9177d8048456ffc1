use Rattle.std.proofs.Common.{◌∙◌, ◌++◌, ℕ, Bool, List, flat_map, get_or, length, reverse, take, sym, ap, subst, arith}
use Rattle.std.proofs.lemmas.List.{take_all}
use Rattle.hu_chain.specs.declared.chain.Growth.TheVariants.{IntoLast}
use Rattle.hu_chain.specs.Pattern.{last_item}
use Rattle.hu_span.specs.Growing.{Records}
use Rattle.hu_span.specs.Kept.{weighed_of}
use Rattle.hu_span.specs.Trail.{span_of, AreHeld, AreSpans}
use Rattle.hu_span.proofs.GrownLemmas.{met, IsBeside}
use Rattle.hu_span.proofs.MarkLemmas.{no_mark}
use Rattle.hu_span.proofs.RowsLemmas.{beside_kept, beside-all, grown-kept}
use Rattle.hu_span.proofs.ScanLemmas.{map-next}
use Rattle.hu_span.proofs.SpanLemmas.{spans-append}
use Rattle.hu_span.proofs.WalkLemmas.{stays-fit}
use Rattle.hu_span.proofs.WeighedLemmas.{weighed-rules}
use Rattle.hu_span.proofs.gather.held_into.Goals.{After-behind-stretch}
use Rattle.hu_span.proofs.gather.held_into.Goals as goal

-- what the pattern grows by beside the mark
own_at : (c : After-behind-stretch) (keep : ℕ → Bool) (records : Records) (p : List (List ℕ)) (are : AreHeld keep records c.args.trail.now p c.args.held.now)
    → IsBeside keep records c.args.trail.now are.are.rules (get_or c.deref-mark-items.result.now c.marks.number no_mark) (span_of c.behind-stretch.result)
    (reverse c.behind-stretch.result.cells.now)
own_at c keep records p are =
    met are c.deref-mark-items.result.now c.marks.number no_mark (span_of c.behind-stretch.result) (reverse c.behind-stretch.result.cells.now)
    c.deref-mark-items.ensures.value c.marks-test.true (c.behind-stretch.ensures.span keep records no_mark are.spans) c.behind-stretch.ensures.cells

pub push_beside-requires-clause-fit : goal.push_beside-requires-clause-fit
push_beside-requires-clause-fit c =
    let own = own_at (goal.at.push_beside-requires-clause-fit c).After-behind-stretch c.requires.0 c.requires.1 c.requires.2 c.requires.3 in
    own.fit

pub marks-preserved : goal.marks-preserved
marks-preserved c keep records p are =
    let marks = c.deref-mark-items.result.now in
    let i = c.marks.number in
    let f = beside_kept keep (weighed_of keep records) in
    let same = c.deref-mark-items.ensures.value in
    let own = own_at (goal.at.marks-preserved c).After-behind-stretch keep records p are in
    let so_far = c.marks.invariant keep records p are in
    let old = c.marks.grown in
    let pushed = c.in_ok-push_beside.ensures.marks ∙ ap (λ ms. old.marks.items ++ ms) own.marks in
    record {
      so_far = pushed ∙ ap (λ ms. ms ++ f (get_or marks i no_mark)) so_far.so_far
          ∙ (λ j. flat_map f (take i c.args.held.now.marks.items) ++ f (get_or (same j) i no_mark))
          ∙ map-next f c.args.held.now.marks.items i no_mark (omega (arith, c.marks-test.true, ap length same));
      fit = stays-fit old.marks.items c.push_beside.new.held.marks.items _ c.in_ok-push_beside.ensures.marks own.fit so_far.fit;
      spans = subst (λ ms. AreSpans keep records c.args.trail.now ms c.push_beside.new.held.spans.items) (sym c.in_ok-push_beside.ensures.marks)
          (subst (AreSpans keep records c.args.trail.now _) (sym c.in_ok-push_beside.ensures.spans)
          (spans-append keep records c.args.trail.now old.marks.items _ old.spans.items _ so_far.spans own.spans));
    }

pub returns : goal.returns
returns c keep records p are =
    let rs = weighed_of keep records in
    let marks = c.args.held.now.marks.items in
    let so_far = c.marks.invariant keep records p are in
    let all = take_all c.marks.number marks (omega (arith, c.marks-test.false, ap length c.deref-mark-items.ensures.value)) in
    let whole = so_far.so_far ∙ ap (flat_map (beside_kept keep rs)) (all ∙ are.places.is) ∙ beside-all keep rs p (last_item p) in
    record {
      grown = grown-kept keep IntoLast rs p c.marks.grown.marks.items (weighed-rules keep records are.are.rules) are.reached whole so_far.fit;
      spans = so_far.spans;
    }
