use Rattle.std.proofs.Common.{◌≡◌, ◌∙◌, ℕ, Bool, true, List, reverse, rules, SFits, refl, sym, ap, subst, arith}
use Rattle.std.specs.Int.{w128}
use Rattle.std.proofs.lemmas.Int.{ints, to_z-of_z}
use Rattle.hu_chain.specs.Pattern.{last_item}
use Rattle.hu_span.specs.declared.trail.Span.{Span}
use Rattle.hu_span.specs.Child.{ArePlaces}
use Rattle.hu_span.specs.Growing.{Records}
use Rattle.hu_span.specs.Kept.{keeps, weighed_of}
use Rattle.hu_span.specs.Mark.{IsMark}
use Rattle.hu_span.specs.Thin.{resting, stretch, IsRun}
use Rattle.hu_span.specs.Trail.{values_in, AreHeld, AreSpans, IsSpan}
use Rattle.hu_span.proofs.RestLemmas.{places-rested}
use Rattle.hu_span.proofs.RowsLemmas.{no-marks}
use Rattle.hu_span.proofs.ThinLemmas.{held, thin-at, thin-here, thin-next, thin-none, thin-span, AreAbove, AreThin, IsThin}
use Rattle.hu_span.proofs.thin.thinned.Goals.{After-at-run}
use Rattle.hu_span.proofs.thin.thinned.Goals as goal

abbrev no_span : Span
no_span = record { low = 0; high = 0 }

pub marks-init : goal.marks-init
marks-init c keep records p held less =
    subst (λ ms. AreThin records (keeps c.args.kept.now) c.args.trail.now c.args.held.now.marks.items ms c.new-thin.result.items c.none-run.result
    c.new-back.result.marks.items c.new-back.result.spans.items) (sym c.as_slice-left.ensures.value)
    (thin-none records (keeps c.args.kept.now) c.args.trail.now c.args.held.now.marks.items c.new-thin.result.items c.none-run.result
    c.new-back.result.marks.items c.new-back.result.spans.items c.new-thin.ensures.items (c.none-run.ensures (keeps c.args.kept.now) c.args.trail.now)
    c.new-back.ensures.marks c.new-back.ensures.spans)

-- the span of the last mark that is left, what of it is copied, and the run up to there
record IsKnown (c : After-at-run) (keep : ℕ → Bool) (records : Records) (less : (item : ℕ) → keeps c.args.kept.now item ≡ true → keep item ≡ true)
    : Type 0 where
  is : IsSpan keep records c.args.trail.now c.in-Some.mark.now c.index-span.result.now
  thin : IsThin keep (keeps c.args.kept.now) records c.args.trail.now less c.in-Some.mark.now c.index-span.result.now
  run : IsRun (keeps c.args.kept.now) c.args.trail.now c.marks.thin.items c.at-run.result

known_at : (c : After-at-run) (keep : ℕ → Bool) (records : Records) (p : List (List ℕ)) (are : AreHeld keep records c.args.trail.now p c.args.held.now)
    (less : (item : ℕ) → keeps c.args.kept.now item ≡ true → keep item ≡ true) → IsKnown c keep records less
known_at c keep records p are less =
    let span = c.index-span.result.now in
    let trail = c.args.trail.now in
    let all = c.marks.invariant keep records p are less in
    let here = thin-at keep (keeps c.args.kept.now) records trail c.args.held.now.marks.items c.marks.left.now c.in-Some.before.now c.in-Some.mark.now
    c.marks.thin.items c.marks.run c.marks.back.marks.items c.marks.back.spans.items all c.in-Some.ensures.cases.0 c.args.held.now.spans.items span
    are.spans in
    let is = subst (IsSpan keep records trail c.in-Some.mark.now) (sym c.index-span.ensures) here.1 in
    let stands = is.stands in
    let mark = thin-here keep (keeps c.args.kept.now) records trail c.args.held.now.marks.items c.marks.left.now c.in-Some.before.now c.in-Some.mark.now
    c.marks.thin.items c.marks.run c.marks.back.marks.items c.marks.back.spans.items all c.in-Some.ensures.cases.0
    (IsMark (weighed_of keep records) (last_item p)) are.places.each in
    record {
      is = is;
      thin = thin-span keep (keeps c.args.kept.now) records trail less (last_item p) c.in-Some.mark.now span are.are.rules mark is;
      run = c.at-run.ensures.run (keeps c.args.kept.now) trail c.marks.thin.items all.is (omega (arith, stands.ordered, stands.within))
          (omega (arith, c.len.ensures));
    }

pub index-span-requires : goal.index-span-requires
index-span-requires c =
    let r = c.requires in
    let here = thin-at r.0 (keeps c.args.kept.now) r.1 c.args.trail.now c.args.held.now.marks.items c.marks.left.now c.in-Some.before.now c.in-Some.mark.now
    c.marks.thin.items c.marks.run c.marks.back.marks.items c.marks.back.spans.items (c.marks.invariant r.0 r.1 r.2 r.3 r.4)
    c.in-Some.ensures.cases.0 c.args.held.now.spans.items no_span r.3.spans in
    omega (arith, here.0)

pub copied-requires-clause-run : goal.copied-requires-clause-run
copied-requires-clause-run c =
    let r = c.requires in
    let known = known_at (goal.at.copied-requires-clause-run c).After-at-run r.0 r.1 r.2 r.3 r.4 in
    known.run

pub copied-requires-clause-ordered : goal.copied-requires-clause-ordered
copied-requires-clause-ordered c =
    let r = c.requires in
    let known = known_at (goal.at.copied-requires-clause-ordered c).After-at-run r.0 r.1 r.2 r.3 r.4 in
    let stands = known.is.stands in
    c.at-run.ensures.high stands.ordered

pub copied-requires-clause-within : goal.copied-requires-clause-within
copied-requires-clause-within c =
    let r = c.requires in
    let known = known_at (goal.at.copied-requires-clause-within c).After-at-run r.0 r.1 r.2 r.3 r.4 in
    let stands = known.is.stands in
    stands.within

pub copied-requires-clause-above : goal.copied-requires-clause-above
copied-requires-clause-above c =
    let r = c.requires in
    let known = known_at (goal.at.copied-requires-clause-above c).After-at-run r.0 r.1 r.2 r.3 r.4 in
    let fewer = keeps c.args.kept.now in
    let thin = known.thin in
    subst (λ n. AreAbove (held fewer (stretch c.args.trail.now n c.index-span.result.now.high))) (sym c.at-run.ensures.low) thin.above

pub copied-requires-clause-fits : goal.copied-requires-clause-fits
copied-requires-clause-fits c =
    let r = c.requires in
    let known = known_at (goal.at.copied-requires-clause-fits c).After-at-run r.0 r.1 r.2 r.3 r.4 in
    let fewer = keeps c.args.kept.now in
    let thin = known.thin in
    let same = ap (λ n. values_in (held fewer (stretch c.args.trail.now n c.index-span.result.now.high))) c.at-run.ensures.low in
    omega (arith, ints, same, thin.fits)

pub marks-preserved : goal.marks-preserved
marks-preserved c keep records p are less =
    let known = known_at (goal.at.marks-preserved c).After-at-run keep records p are less in
    let run = c.in_ok-run.run' in
    let fits : SFits w128 run.sum = search rules in
    let made = c.resting.ensures ∙ ap (resting c.in-Some.mark.now) (to_z-of_z w128 run.sum fits) in
    thin-next keep (keeps c.args.kept.now) records c.args.trail.now c.args.held.now.marks.items c.marks.left.now c.in-Some.before.now c.in-Some.mark.now
    c.marks.thin.items c.marks.run c.marks.back.marks.items c.marks.back.spans.items (c.marks.invariant keep records p are less)
    c.in-Some.ensures.cases.0 less c.index-span.result.now _ _ c.copied.new.thin.items run c.push.new.self.marks.items c.push.new.self.spans.items known.thin
    c.in_ok-run.ensures.run (c.in_ok-run.ensures.low ∙ c.at-run.ensures.low) c.in_ok-run.ensures.high c.in_ok-run.ensures.grows refl
    (omega (arith, c.len-in-Some.ensures)) made c.in_ok-push.ensures.marks c.in_ok-push.ensures.spans

pub returns : goal.returns
returns c keep records p are own still less =
    let fewer = keeps c.args.kept.now in
    let none = no-marks c.marks.left.now c.in_default.ensures.cases in
    let all = subst (λ ms. AreThin records fewer c.args.trail.now c.args.held.now.marks.items ms c.marks.thin.items c.marks.run c.marks.back.marks.items
    c.marks.back.spans.items) none (c.marks.invariant keep records p are less) in
    let rs = weighed_of fewer records in
    record {
      are = are.are;
      reached = are.reached;
      places = subst (ArePlaces rs p (last_item p)) (sym (c.reverse.ensures.items ∙ all.done))
          (places-rested keep fewer p own still records c.args.held.now.marks.items are.are.rules are.reached less are.places);
      spans = subst (λ ms. AreSpans fewer records c.marks.thin.items ms c.reverse-2.new.self.items) (sym c.reverse.ensures.items)
          (subst (λ ss. AreSpans fewer records c.marks.thin.items (reverse c.marks.back.marks.items) ss) (sym c.reverse-2.ensures.items) all.spans);
    }
