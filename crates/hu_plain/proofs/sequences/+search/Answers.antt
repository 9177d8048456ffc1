use Rattle.std.proofs.Common.{rules, ◌≡◌, ◌∙◌, ◌+◌, ◌*◌, ◌<◌, ℕ, List, get_or, length, refl, sym, ap, subst, arith}
use Rattle.std.specs.Global.{Vec}
use Rattle.hu_collect.specs.State.{IsInOrder, Reached, ReachedSome}
use Rattle.hu_collect.proofs.lemmas.Searching.{reached-none, stopped}
use Rattle.hu_plain.specs.declared.places.Place.{Place}
use Rattle.hu_plain.specs.declared.places.Step.{Step}
use Rattle.hu_plain.specs.declared.places.Step.TheVariants.{Into}
use Rattle.hu_plain.specs.Growth.{prefix_entry, stepped_key, Grows, IsGrowth}
use Rattle.hu_plain.specs.Place.{all_stepped, ArePlaces}
use Rattle.hu_plain.specs.PlaceView.{all_places, HasSteps}
use Rattle.hu_plain.proofs.PlaceLemmas.{none-stepped, IsGrown-from}
use Rattle.hu_plain.proofs.Reach.{left_in, left_in-stepped}
use Rattle.hu_plain.proofs.SoFar.{own-ordered, own-then, own-some, so_far-none, so_far-ordered, so_far-stopped, so_far-all, so_far-next, so_far-some}
use Rattle.hu_plain.proofs.Steps.{BeginsWith, IsGrown, begins-reached, begins-some, begins-whole}
use Rattle.hu_plain.proofs.sequences.+search.Given.{Over}
use Rattle.hu_plain.proofs.sequences.+search.Goals.{search-After-enter}
use Rattle.hu_plain.proofs.sequences.+search.Goals as goal

no_step : Step
no_step = Into (record { 0 = 0 })

-- ---- enter

pub enter-search-requires : goal.enter-search-requires
enter-search-requires g t c κs within =
    let old = g.C.Collect.state c.args.collect.now in
    let mid = g.C.Collect.state c.offer.new.collect in
    let ordered : IsInOrder mid = own-ordered old mid (prefix_entry c.push_step.new.prefix (all_places c.args.rows.now)) c.in_ok-offer.ensures in
    let left = left_in (all_places c.args.rows.now) in
    let smaller : 2 * left < 2 * left + 1 = omega arith in
    search rules

pub enter-returns-in_err-search-clause-searches : goal.enter-returns-in_err-search-clause-searches
enter-returns-in_err-search-clause-searches g t c =
    let old = g.C.Collect.state c.args.collect.now in
    let new = g.C.Collect.state c.search.new.collect in
    let rows = all_places c.args.rows.now in
    let key = c.push_step.new.prefix in
    stopped {P = IsGrowth (stepped_key c.args.prefix.now c.args.step) rows} c.from_residual-in_err-search.result c.from_residual-in_err-search.ensures.0
    (subst (λ p. ReachedSome old (IsGrowth p rows) new) c.in_ok-push_step.ensures
    (own-some {P = Grows key rows} (prefix_entry key rows) c.in_ok-offer.ensures c.in_err-search.ensures.searches))

pub enter-returns-clause-searches : goal.enter-returns-clause-searches
enter-returns-clause-searches g t c =
    let old = g.C.Collect.state c.args.collect.now in
    let new = g.C.Collect.state c.search.new.collect in
    let rows = all_places c.args.rows.now in
    let key = c.push_step.new.prefix in
    subst (λ p. Reached old (IsGrowth p rows) new) c.in_ok-push_step.ensures
    (own-then {P = Grows key rows} (prefix_entry key rows) c.requires.in_order c.in_ok-offer.ensures c.in_ok-search.ensures.searches)

-- ---- search

pub search-steps-init : goal.search-steps-init
search-steps-init g t c =
    let rows = all_places c.args.rows.now in
    let steps = c.deref-step-items.result.now in
    let has : HasSteps rows steps = subst (HasSteps rows) (sym c.deref-step-items.ensures.value) c.in_ok-steps.ensures in
    record {
      prefix = refl;
      so_far = so_far-none (g.C.Collect.state c.args.collect.now) c.requires.in_order
          (begins-whole c.args.prefix.now rows c.requires.rows.ascending steps has);
    }

pub search-returns-in_err-grown-clause-searches : goal.search-returns-in_err-grown-clause-searches
search-returns-in_err-grown-clause-searches g t c =
    stopped {P = Grows c.args.prefix.now (all_places c.args.rows.now)} c.from_residual-in_err-grown.result c.from_residual-in_err-grown.ensures.0
    (so_far-stopped c.steps.invariant.so_far)

pub search-returns-clause-searches : goal.search-returns-clause-searches
search-returns-clause-searches g t c = so_far-all c.steps.invariant.so_far c.steps-test.false

pub search-steps-preserved-then-is_empty : goal.search-steps-preserved-then-is_empty
unfolding no_step
search-steps-preserved-then-is_empty g t c =
    let rows = all_places c.args.rows.now in
    let now = g.C.Collect.state c.steps.collect in
    let step = get_or c.deref-step-items.result.now c.steps.step-index no_step in
    let none : length (all_stepped step rows) ≡ 0 =
    none-stepped c.in_ok-grown.grown (all_stepped step rows) c.in_ok-grown.ensures.value (sym c.is_empty.ensures ∙ c.if-is_empty.true) in
    record {
      prefix = c.steps.invariant.prefix;
      so_far = so_far-next c.steps.invariant.so_far no_step c.steps-test.true c.requires.in_order
          (reached-none {P = BeginsWith c.args.prefix.now rows step} now (so_far-ordered c.steps.invariant.so_far)
          (λ e begins pass high. let some = begins.0 in absurd (omega (arith, some, none))));
    }

pub search-enter-requires : goal.search-enter-requires
unfolding no_step
search-enter-requires g t c κs within =
    let rows = all_places c.args.rows.now in
    let step = get_or c.deref-step-items.result.now c.steps.step-index no_step in
    let found = all_places c.deref.result.now in
    let grown = IsGrown-from c.in_ok-grown.grown c.deref.result.now step rows c.deref.ensures.value c.in_ok-grown.ensures.value
    (sym c.is_empty.ensures ∙ c.if-is_empty.false) in
    let are : ArePlaces found = subst (λ (xs : List (Vec Place)). ArePlaces (all_places xs)) (sym c.deref.ensures.value) c.in_ok-grown.ensures.rules in
    let ordered : IsInOrder (g.C.Collect.state c.steps.collect) = so_far-ordered c.steps.invariant.so_far in
    let fewer = left_in-stepped step rows in
    let smaller : 2 * left_in found + 1 < 2 * left_in rows = omega (arith, grown.some, fewer, ap left_in grown.is) in
    search rules

-- what the step has grown, which was entered
grown_at : (g : Over) (t : ℕ) (c : search-After-enter g t)
    → IsGrown (get_or c.deref-step-items.result.now c.steps.step-index no_step) (all_places c.args.rows.now) (all_places c.deref.result.now)
unfolding no_step
grown_at g t c =
    IsGrown-from c.in_ok-grown.grown c.deref.result.now (get_or c.deref-step-items.result.now c.steps.step-index no_step) (all_places c.args.rows.now)
    c.deref.ensures.value c.in_ok-grown.ensures.value (sym c.is_empty.ensures ∙ c.if-is_empty.false)

pub search-returns-in_err-enter-clause-searches : goal.search-returns-in_err-enter-clause-searches
unfolding no_step
search-returns-in_err-enter-clause-searches g t c =
    let grown = grown_at g t (goal.at.search-returns-in_err-enter-clause-searches g t c).After-enter in
    stopped {P = Grows c.args.prefix.now (all_places c.args.rows.now)} c.from_residual-in_err-enter.result c.from_residual-in_err-enter.ensures.0
    (so_far-some c.steps.invariant.so_far no_step c.steps-test.true (begins-some grown c.steps.invariant.prefix c.in_err-enter.ensures.searches))

pub search-steps-preserved : goal.search-steps-preserved
unfolding no_step
search-steps-preserved g t c =
    let grown = grown_at g t (goal.at.search-steps-preserved g t c).After-enter in
    record {
      prefix = c.in_ok-enter.ensures.prefix ∙ c.steps.invariant.prefix;
      so_far = so_far-next c.steps.invariant.so_far no_step c.steps-test.true c.requires.in_order
          (begins-reached grown c.steps.invariant.prefix c.in_ok-enter.ensures.searches);
    }
