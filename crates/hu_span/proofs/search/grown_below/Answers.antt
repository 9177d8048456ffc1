use Rattle.std.proofs.Common.{sym, subst}
use Rattle.hu_span.specs.Child.{AreGathered}
use Rattle.hu_span.specs.Kept.{keeps, weighed_of}
use Rattle.hu_span.specs.Search.{counting, AreBehind, CanGather}
use Rattle.hu_span.specs.Trail.{AreHeld}
use Rattle.hu_span.specs.Growing.{Pattern}
use Rattle.hu_span.proofs.NodeLemmas.{fewer-less, fewer-still, gathered-of}
use Rattle.hu_span.proofs.WeighedLemmas.{weighed-records}
use Rattle.hu_span.proofs.search.grown_below.Goals.{After-deref, In_ok-grown-in-None, In_ok-grown-in-Some}
use Rattle.hu_span.proofs.search.grown_below.Goals as goal

pub gathered-requires : goal.gathered-requires
gathered-requires c =
    let is = c.requires.1 in
    (keeps c.args.level.kept.now, c.args.level.records.now, c.requires.0, is.are)

pub returns-in_ok-grown-in-None-clause-grown : goal.returns-in_ok-grown-in-None-clause-grown
returns-in_ok-grown-in-None-clause-grown c p is =
    let kept = c.args.level.kept.now in
    let records = c.args.level.records.now in
    let grown = c.in_ok-grown-in-None.grown in
    let into = c.in_ok-grown-in-None.ensures.into (keeps kept) records p is.are in
    let after = c.in_ok-grown-in-None.ensures.after (keeps kept) records p is.are in
    subst (λ f. AreGathered (weighed_of (keeps (counting f kept)) records) (keeps (counting f kept)) p grown) (sym c.in-None.is)
    (gathered-of (weighed-records (keeps kept) records is.are.are) is.are.reached into.grown after.grown)

pub returns-in_ok-grown-in-None-clause-spans : goal.returns-in_ok-grown-in-None-clause-spans
returns-in_ok-grown-in-None-clause-spans c p is =
    let kept = c.args.level.kept.now in
    let records = c.args.level.records.now in
    let into = c.in_ok-grown-in-None.ensures.into (keeps kept) records p is.are in
    let after = c.in_ok-grown-in-None.ensures.after (keeps kept) records p is.are in
    subst (λ f. AreBehind (keeps (counting f kept)) records c.args.level.trail.now c.in_ok-grown-in-None.grown) (sym c.in-None.is)
    (record { into = into.spans; after = after.spans })

-- the marks where fewer items count
thin_at : (c : After-deref) (p : Pattern) → CanGather c.args.level.records.now c.args.level.kept.now c.args.fewer c.args.level.trail.now c.args.held.now p
    → AreHeld (keeps c.in-Some.kept) c.args.level.records.now c.deref.result.now p c.in_ok-trail-in-Some.field-0.held
thin_at c p is =
    let kept = c.args.level.kept.now in
    let fewer = c.in-Some.kept in
    let records = c.args.level.records.now in
    let trail = c.args.level.trail.now in
    subst (λ cs. AreHeld (keeps fewer) records cs p c.in_ok-trail-in-Some.field-0.held) (sym c.deref.ensures.value)
    (c.in_ok-trail-in-Some.ensures (keeps kept) records p is.are is.own
    (fewer-still records kept fewer c.args.fewer trail c.args.held.now p is c.in-Some.is)
    (fewer-less records kept fewer c.args.fewer trail c.args.held.now p is c.in-Some.is))

pub gathered-requires-in-Some : goal.gathered-requires-in-Some
gathered-requires-in-Some c = (
  keeps c.in-Some.kept,
  c.args.level.records.now,
  c.requires.0,
  thin_at (goal.at.gathered-requires-in-Some c).After-deref
      c.requires.0 c.requires.1,
)

pub returns-in_ok-grown-in-Some-clause-grown : goal.returns-in_ok-grown-in-Some-clause-grown
returns-in_ok-grown-in-Some-clause-grown c p is =
    let kept = c.args.level.kept.now in
    let fewer = c.in-Some.kept in
    let records = c.args.level.records.now in
    let thin = thin_at (goal.at.returns-in_ok-grown-in-Some-clause-grown c).After-deref p is in
    let into = c.in_ok-grown-in-Some.ensures.into (keeps fewer) records p thin in
    let after = c.in_ok-grown-in-Some.ensures.after (keeps fewer) records p thin in
    subst (λ f. AreGathered (weighed_of (keeps (counting f kept)) records) (keeps (counting f kept)) p c.in_ok-grown-in-Some.grown) (sym c.in-Some.is)
    (gathered-of (weighed-records (keeps fewer) records is.are.are) is.are.reached into.grown after.grown)

pub returns-in_ok-grown-in-Some-clause-spans : goal.returns-in_ok-grown-in-Some-clause-spans
returns-in_ok-grown-in-Some-clause-spans c p is =
    let kept = c.args.level.kept.now in
    let fewer = c.in-Some.kept in
    let records = c.args.level.records.now in
    let thin = thin_at (goal.at.returns-in_ok-grown-in-Some-clause-spans c).After-deref p is in
    let into = c.in_ok-grown-in-Some.ensures.into (keeps fewer) records p thin in
    let after = c.in_ok-grown-in-Some.ensures.after (keeps fewer) records p thin in
    subst (λ f. AreBehind (keeps (counting f kept)) records c.in_ok-trail-in-Some.field-0.trail.items c.in_ok-grown-in-Some.grown) (sym c.in-Some.is)
    (subst (λ cs. AreBehind (keeps fewer) records cs c.in_ok-grown-in-Some.grown) c.deref.ensures.value (record { into = into.spans; after = after.spans }))
