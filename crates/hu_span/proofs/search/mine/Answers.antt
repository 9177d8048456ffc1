use Rattle.std.proofs.Common.{◌∙◌, inl, [], sym, subst, ap, arith}
use Rattle.hu_kind.specs.Sequence.{sequence_patterns}
use Rattle.hu_base.specs.Base.{records_of}
use Rattle.hu_collect.specs.State.{Searches}
use Rattle.hu_collect.proofs.lemmas.Searching.{mined, reached-in_order, stopped}
use Rattle.hu_span.specs.Child.{AreGathered}
use Rattle.hu_span.specs.Growing.{GrowsOn, GrowsOver, Records}
use Rattle.hu_span.specs.Kept.{keeps, weighed_of}
use Rattle.hu_span.specs.Step.{pattern_of}
use Rattle.hu_span.proofs.ReachLemmas.{all-patterns}
use Rattle.hu_span.proofs.RootLemmas.{root, IsRoot}
use Rattle.hu_span.proofs.SearchLemmas.{opened-searches}
use Rattle.hu_span.proofs.WeighedLemmas.{all-records}
use Rattle.hu_span.proofs.search.mine.Given.{Over}
use Rattle.hu_span.proofs.search.mine.Goals.{In_ok-trail}
use Rattle.hu_span.proofs.search.mine.Goals as goal

-- the empty pattern, by which nothing is offered yet
root_at : (g : Over) (c : In_ok-trail g)
    → IsRoot (records_of c.args.base.now) c.records-records.result.now (keeps c.every-kept.result) c.new-steps.result.items c.in_ok-trail.field-0.grown
root_at g c = root (keeps c.every-kept.result) c.in_ok-trail.field-0.grown c.records-records.ensures c.every-kept.ensures
    (omega (arith, c.sum-sum.ensures.fits))
    c.in_ok-trail.ensures.rules c.new-steps.ensures.items c.in_ok-trail.ensures.into
    (c.in_ok-trail.ensures.after (keeps c.every-kept.result) c.every-kept.ensures).grown

pub offer_grown-requires-clause-grown : goal.offer_grown-requires-clause-grown
offer_grown-requires-clause-grown g c =
    let seen = c.records-records.result.now in
    let keep = keeps c.every-kept.result in
    let rs = weighed_of keep seen in
    let r = root_at g (goal.at.offer_grown-requires-clause-grown g c).In_ok-trail in
    (rs, keep, r.gathered)

pub returns-in_err-offer_grown : goal.returns-in_err-offer_grown
returns-in_err-offer_grown g c =
    let records : Records = records_of c.args.base.now in
    let seen = c.records-records.result.now in
    let same = c.records-records.ensures in
    let keep = keeps c.every-kept.result in
    let every = c.every-kept.ensures in
    let rs = weighed_of keep seen in
    let steps = c.new-steps.result.items in
    let r = root_at g (goal.at.returns-in_err-offer_grown g c).In_ok-trail in
    let old = g.C.Collect.state c.args.collect.now in
    let new = g.C.Collect.state c.offer_grown.new.collect in
    let result = c.from_residual-in_err-offer_grown.result in
    let some = stopped {P = GrowsOn rs keep (pattern_of steps)} result c.from_residual-in_err-offer_grown.ensures.0
    (c.in_err-offer_grown.ensures.made rs keep r.own r.gathered) in
    let made = subst (λ all. Searches old (GrowsOn all keep []) new result) (all-records keep every seen ∙ same)
    (subst (λ p. Searches old (GrowsOn rs keep p) new result) r.none some) in
    mined (GrowsOn records keep []) old new (sequence_patterns records) result (all-patterns records r.are keep every) made

pub deepen-requires-clause-ordered : goal.deepen-requires-clause-ordered
deepen-requires-clause-ordered g c =
    let seen = c.records-records.result.now in
    let keep = keeps c.every-kept.result in
    let rs = weighed_of keep seen in
    let r = root_at g (goal.at.deepen-requires-clause-ordered g c).In_ok-trail in
    let made = c.in_ok-offer_grown.ensures.made rs keep r.own r.gathered in
    reached-in_order made.2

pub deepen-requires-clause-grown : goal.deepen-requires-clause-grown
deepen-requires-clause-grown g c =
    let seen = c.records-records.result.now in
    let keep = keeps c.every-kept.result in
    let rs = weighed_of keep seen in
    let r = root_at g (goal.at.deepen-requires-clause-grown g c).In_ok-trail in
    let again = ap pattern_of c.in_ok-offer_grown.ensures.steps ∙ r.none in
    subst (λ p. AreGathered rs keep p c.in_ok-trail.field-0.grown) (sym again) r.empty

pub returns : goal.returns
returns g c =
    let records : Records = records_of c.args.base.now in
    let seen = c.records-records.result.now in
    let same = c.records-records.ensures in
    let keep = keeps c.every-kept.result in
    let every = c.every-kept.ensures in
    let rs = weighed_of keep seen in
    let steps = c.new-steps.result.items in
    let r = root_at g (goal.at.returns g c).In_ok-trail in
    let old = g.C.Collect.state c.args.collect.now in
    let new = g.C.Collect.state c.deepen.new.collect in
    let result = c.deepen.result in
    let again = ap pattern_of c.in_ok-offer_grown.ensures.steps in
    let offers = c.in_ok-offer_grown.ensures.made rs keep r.own r.gathered in
    let below = subst (λ p. Searches (g.C.Collect.state c.offer_grown.new.collect) (GrowsOver rs keep p) new result) again c.deepen.ensures.made in
    let whole = opened-searches rs keep (pattern_of steps) r.weighed (inl r.none) _ _ _ offers.0 r.own c.floor-floor.ensures.in_order
    offers.1 offers.2 result below in
    let made = subst (λ all. Searches old (GrowsOn all keep []) new result) (all-records keep every seen ∙ same)
    (subst (λ p. Searches old (GrowsOn rs keep p) new result) r.none whole) in
    mined (GrowsOn records keep []) old new (sequence_patterns records) result (all-patterns records r.are keep every) made
