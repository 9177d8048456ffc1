use Rattle.std.proofs.Common.{◌≡◌, ◌∙◌, ◌+◌, ◌-◌, ◌<◌, ℕ, Bool, drop, get_or, length, reverse, rules, take, sym, ap, subst, arith}
use Rattle.hu_span.specs.declared.mark.Mark.{Mark}
use Rattle.hu_span.specs.declared.trail.Span.{Span}
use Rattle.hu_span.specs.Growing.{Records}
use Rattle.hu_span.specs.Trail.{AreSpans, IsSpan}
use Rattle.hu_span.proofs.MarkLemmas.{no_mark}
use Rattle.hu_span.proofs.SpanLemmas.{span-get, span-size}
use Rattle.hu_span.proofs.trail.Held.behind.Goals.{After-index-span, After-of}
use Rattle.hu_span.proofs.trail.Held.behind.Goals as goal

abbrev no_span : Span
no_span = record { low = 0; high = 0 }

pub index-span-requires : goal.index-span-requires
index-span-requires c =
    let r = c.requires.spans in
    let held = c.args.self.now in
    let here = span-get r.0 r.1 c.args.trail.now held.marks.items held.spans.items c.args.number no_mark no_span r.2 c.requires.number in
    omega (arith, here.0)

-- the span that is read is the mark's
span_at : (c : After-index-span) (keep : ℕ → Bool) (records : Records) (none : Mark)
    → AreSpans keep records c.args.trail.now c.args.self.now.marks.items c.args.self.now.spans.items
    → IsSpan keep records c.args.trail.now (get_or c.args.self.now.marks.items c.args.number none) c.index-span.result.now
span_at c keep records none are =
    let held = c.args.self.now in
    subst (IsSpan keep records c.args.trail.now (get_or held.marks.items c.args.number none)) (sym c.index-span.ensures)
    (span-get keep records c.args.trail.now held.marks.items held.spans.items c.args.number none c.index-span.result.now are c.requires.number).1

-- as many cells stand there as it says
size_at : (c : After-of) → c.index-span.result.now.low + length c.of.result.now ≡ c.index-span.result.now.high
size_at c =
    let r = c.requires.spans in
    let here = span_at (goal.at.returns-clause-within c).After-index-span r.0 r.1 no_mark r.2 in
    span-size c.args.trail.now c.index-span.result.now c.of.result.now here.stands c.of.ensures

pub of-requires : goal.of-requires
of-requires c =
    let r = c.requires.spans in
    let here = span_at (goal.at.of-requires c).After-index-span r.0 r.1 no_mark r.2 in
    here.stands

pub returns-clause-within : goal.returns-clause-within
returns-clause-within c =
    let whole : length c.args.trail.now < 18446744073709551616 = search rules in
    let r = c.requires.spans in
    let here = span_at (goal.at.returns-clause-within c).After-index-span r.0 r.1 no_mark r.2 in
    omega (arith, size_at (goal.at.returns-clause-within c).After-of, here.stands.within, whole)

pub returns-clause-cells : goal.returns-clause-cells
returns-clause-cells c =
    let low = c.index-span.result.now.low in
    c.of.ensures ∙ ap (λ high. reverse (take (high - low) (drop low c.args.trail.now))) (sym (size_at (goal.at.returns-clause-cells c).After-of))

pub returns-clause-span : goal.returns-clause-span
returns-clause-span c keep records none are =
    let low = c.index-span.result.now.low in
    subst (λ high. IsSpan keep records c.args.trail.now (get_or c.args.self.now.marks.items c.args.number none) (record { low = low; high = high }))
    (sym (size_at (goal.at.returns-clause-span c).After-of)) (span_at (goal.at.returns-clause-span c).After-index-span keep records none are)
