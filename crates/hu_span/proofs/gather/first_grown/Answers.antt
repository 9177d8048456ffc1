use Rattle.std.proofs.Common.{◌≡◌, ◌∙◌, ◌<◌, ◌++◌, suc, pos, take, drop, get_or, filter, [], length, reverse, true, refl, sym, ap, subst, arith, add-one}
use Rattle.std.proofs.Common.{append_assoc, append-nil}
use Rattle.std.specs.List.{AllByRecursion}
use Rattle.std.proofs.lemmas.List.{get_or-map, length-map, take_all, take_more}
use Rattle.std.proofs.lemmas.List.Elements.{filter-append}
use Rattle.hu_kind.proofs.lemmas.Each.{each-push}
use Rattle.hu_kind.specs.Sequence.{IsSequence}
use Rattle.hu_chain.specs.Place.{totals}
use Rattle.hu_span.specs.Gather.{walk_marks}
use Rattle.hu_span.specs.Kept.{takes, weighed_in, weighed_of}
use Rattle.hu_span.specs.Mark.{record_at}
use Rattle.hu_span.specs.Trail.{cells_from, trail_marks, trail_spans, AreSpans}
use Rattle.hu_span.proofs.BeginLemmas.{first-fit, first-marks, first-spans}
use Rattle.hu_span.proofs.GatherLemmas.{first_from}
use Rattle.hu_span.proofs.RowsLemmas.{first-kept, first-next, record_at-any}
use Rattle.hu_span.proofs.SpanLemmas.{spans-append}
use Rattle.hu_span.proofs.ThinLemmas.{spans-grown}
use Rattle.hu_span.proofs.TurnLemmas.{AreFit}
use Rattle.hu_span.proofs.WalkLemmas.{drop-past, stays-fit}
use Rattle.hu_span.proofs.WeighedLemmas.{weighed-rules}
use Rattle.hu_span.proofs.gather.first_grown.Goals as goal

pub records-init : goal.records-init
records-init c =
    let none = c.new-after.ensures.marks in
    record {
      so_far = λ keep every. ap (λ ms. ms ++ filter (takes keep) (first_from 0 (weighed_of keep c.args.records.now))) none;
      fit = subst AreFit (sym none) tt;
      spans = λ keep every. subst (λ ms. AreSpans keep c.args.records.now c.new-trail.result.items ms c.new-after.result.spans.items) (sym none)
          (subst (AreSpans keep c.args.records.now c.new-trail.result.items []) (sym c.new-after.ensures.spans) tt);
      rules = tt;
    }

pub records-preserved : goal.records-preserved
records-preserved c =
    let records = c.args.records.now in
    let row = c.records.row in
    let r = c.index-records-row.result in
    let is = c.in_ok-push_first.ensures in
    let old = c.records.after in
    let new = c.push_first.new.held in
    let marks = trail_marks row (pos 0) (totals r) [] (cells_from 0 r) in
    let fits = first-fit (λ _. true) (λ _. refl) row r is.rules in
    let front = each-push IsSequence (take row records) (get_or records row r) c.records.invariant.rules (subst IsSequence c.index-records-row.is is.rules) in
    let seen : record_at records row ≡ r = sym (record_at-any records row r c.records-test.true) ∙ sym c.index-records-row.is in
    record {
      so_far = λ keep every.
          let rs = weighed_of keep records in
          let w = weighed_in keep r in
          let size = length-map records (weighed_in keep) in
          let within : row < length rs = omega (arith, size, c.records-test.true) in
          let at : w ≡ get_or rs row w =
          ap (weighed_in keep) c.index-records-row.is ∙ sym (get_or-map (weighed_in keep) records row r w c.records-test.true) in
          let here = walk_marks row 0 (pos 0) (totals w) [] w in
          let after = first_from (suc row) (drop (suc row) rs) in
          rw add-one (ap (λ ms. ms ++ filter (takes keep) after) (is.marks ∙ ap (λ ms. old.marks.items ++ ms) (first-marks keep every row r))
          ∙ append_assoc old.marks.items (filter (takes keep) here) (filter (takes keep) after)
          ∙ ap (λ ms. old.marks.items ++ ms) (sym (filter-append (takes keep) here after))
          ∙ ap (λ ms. old.marks.items ++ filter (takes keep) ms) (sym (first-next rs row w within at)) ∙ c.records.invariant.so_far keep every);
      fit = stays-fit old.marks.items new.marks.items marks is.marks fits c.records.invariant.fit;
      spans = λ keep every.
          let trail = c.push_first.new.trail.items in
          let cells = cells_from 0 r in
          let grown = subst (λ cs. AreSpans keep records cs old.marks.items old.spans.items) (sym is.cells)
          (spans-grown keep records c.records.trail.items (reverse cells) old.marks.items old.spans.items (c.records.invariant.spans keep every)) in
          let own = subst (λ es. AreSpans keep records trail (trail_marks row (pos 0) (totals r) [] (cells_from 0 es))
          (trail_spans (length c.records.trail.items) 0 (cells_from 0 es))) seen
          (first-spans keep every records row c.records.trail.items trail (totals r)
          (is.cells ∙ ap (λ es. c.records.trail.items ++ reverse (cells_from 0 es)) (sym seen))) in
          subst (λ ms. AreSpans keep records trail ms new.spans.items) (sym is.marks)
          (subst (AreSpans keep records trail (old.marks.items ++ marks)) (sym is.spans)
          (spans-append keep records trail old.marks.items marks old.spans.items (trail_spans (length c.records.trail.items) 0 cells) grown own));
      rules = subst (AllByRecursion IsSequence) (sym (take_more records row r c.records-test.true)) front;
    }

pub returns-clause-after : goal.returns-clause-after
returns-clause-after c keep every =
    let records = c.args.records.now in
    let rs = weighed_of keep records in
    let row = c.records.row in
    let past = c.records-test.false in
    let size = length-map records (weighed_in keep) in
    let rules = subst (AllByRecursion IsSequence) (take_all row records (omega (arith, past))) c.records.invariant.rules in
    let marks = c.records.after.marks.items in
    let whole = sym (append-nil marks)
    ∙ ap (λ left. marks ++ filter (takes keep) (first_from row left)) (sym (drop-past rs row (omega (arith, past, size))))
    ∙ c.records.invariant.so_far keep every in
    record {
      grown = first-kept keep rs marks (weighed-rules keep records rules) whole c.records.invariant.fit;
      spans = c.records.invariant.spans keep every;
    }

pub returns-clause-rules : goal.returns-clause-rules
returns-clause-rules c = subst (AllByRecursion IsSequence) (take_all c.records.row c.args.records.now (omega (arith, c.records-test.false)))
    c.records.invariant.rules
