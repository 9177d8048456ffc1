use Rattle.std.proofs.Common.{rules, refl, to_z, of_z, SFits, ◌≡◌, ◌<◌, ◌+◌, ◌-◌, ◌*◌, ◌<ℤ◌, length, sym, ap}
use Rattle.std.proofs.Common.{◌∙◌, subst, arith}
use Rattle.std.proofs.Common.{inl, inr}
use Rattle.std.specs.Int.{w128}
use Rattle.std.proofs.lemmas.Int.{ints, to_z-of_z}
use Rattle.hu_collect.specs.State.{floor_in, IsInOrder, Reached, ReachedSome}
use Rattle.hu_collect.proofs.lemmas.Searching.{reached-in_order, stopped}
use Rattle.hu_span.specs.declared.child.Branch.{Branch}
use Rattle.hu_span.specs.Branch.{IsBranch}
use Rattle.hu_span.specs.Child.{stepped, AreGathered}
use Rattle.hu_span.specs.Kept.{keeps, weighed_of, AreKept}
use Rattle.hu_span.specs.Growing.{GrowsOn, GrowsOver, IsBegun}
use Rattle.hu_span.specs.Search.{counting, trail_of, AreBehind, AreKeptBest, GoesOn}
use Rattle.hu_span.specs.Step.{pattern_of}
use Rattle.hu_span.specs.Trail.{AreSpans}
use Rattle.std.specs.List.{Contains}
use Rattle.hu_span.proofs.SearchLemmas.{so_far-none, so_far-ordered, so_far-all, so_far-next, so_far-some}
use Rattle.hu_span.proofs.SearchLemmas.{turn-branch}
use Rattle.hu_span.proofs.WeighedLemmas.{weighed-records}
use Rattle.hu_span.proofs.NodeLemmas.{opened, node, node-all, node-held, node-some, node-stopped, can-gather}
use Rattle.hu_span.proofs.search.+search.Goals as goal

pub deepen-best_branches-requires-clause-grown : goal.deepen-best_branches-requires-clause-grown
deepen-best_branches-requires-clause-grown g t c =
    let keep = keeps c.args.level.kept.now in
    let records = weighed_of keep c.args.level.records.now in
    let p = pattern_of c.args.steps.now.items in
    let are = weighed-records keep c.args.level.records.now c.requires.records in
    let begun = c.requires.grown.into.begun in
    (records, keep, p, c.requires.grown)

pub deepen-best_branches-requires-clause-spans : goal.deepen-best_branches-requires-clause-spans
deepen-best_branches-requires-clause-spans g t c =
    (keeps c.args.level.kept.now, c.args.level.records.now, c.args.level.trail.now, c.requires.spans)

pub deepen-branches-init : goal.deepen-branches-init
deepen-branches-init g t c =
    let keep = keeps c.args.level.kept.now in
    let records = weighed_of keep c.args.level.records.now in
    let p = pattern_of c.args.steps.now.items in
    let are = weighed-records keep c.args.level.records.now c.requires.records in
    let begun = c.requires.grown.into.begun in
    let old = g.C.Collect.state c.args.collect.now in
    let best = c.in_ok-branches.ensures.best records keep p c.requires.grown in
    let fits : SFits w128 c.floor.result = search rules in
    let floor_is : to_z w128 (of_z w128 c.floor.result) ≡ floor_in old = to_z-of_z w128 c.floor.result fits ∙ c.floor.ensures.value in
    let best' = subst (λ f. AreKeptBest records keep p f c.in_ok-branches.branches.items) floor_is best in
    record {
      steps = refl;
      rows = c.requires.rows;
      spans = subst (λ bs. (branch : Branch) → Contains bs branch → AreSpans keep c.args.level.records.now c.args.level.trail.now branch.held.marks.items
          branch.held.spans.items) (sym c.deref-branch-items.ensures.value)
          (c.in_ok-branches.ensures.spans keep c.args.level.records.now c.args.level.trail.now c.requires.spans);
      made = so_far-none records keep p are begun c.requires.ordered (subst (AreKeptBest records keep p (floor_in old))
          (sym c.deref-branch-items.ensures.value) best');
    }

pub deepen-returns-then-branch-floor-clause-made : goal.deepen-returns-then-branch-floor-clause-made
deepen-returns-then-branch-floor-clause-made g t c =
    let keep = keeps c.args.level.kept.now in
    let records = weighed_of keep c.args.level.records.now in
    let p = pattern_of c.args.steps.now.items in
    let are = weighed-records keep c.args.level.records.now c.requires.records in
    let begun = c.requires.grown.into.begun in
    let branch = c.branch-item.result in
    let steps = c.branches.invariant.steps in
    let so_far = c.branches.invariant.made in
    let low : branch.bound <ℤ floor_in (g.C.Collect.state c.branches.collect) =
    omega (arith, ints, c.floor.ensures.value, c.if-branch-floor.true, c.floor.type_inv) in
    let low' = subst (λ (b : Branch). b.bound <ℤ floor_in (g.C.Collect.state c.branches.collect)) c.branch-item.is low in
    so_far-all records keep p are begun c.requires.ordered so_far (inr (branch, low'))

pub deepen-returns-clause-made : goal.deepen-returns-clause-made
deepen-returns-clause-made g t c =
    let keep = keeps c.args.level.kept.now in
    let records = weighed_of keep c.args.level.records.now in
    let p = pattern_of c.args.steps.now.items in
    let are = weighed-records keep c.args.level.records.now c.requires.records in
    let begun = c.requires.grown.into.begun in
    so_far-all records keep p are begun c.requires.ordered c.branches.invariant.made (inl c.branches-test.false)

pub deepen-branches-preserved : goal.deepen-branches-preserved
deepen-branches-preserved g t c =
    let keep = keeps c.args.level.kept.now in
    let records = weighed_of keep c.args.level.records.now in
    let p = pattern_of c.args.steps.now.items in
    let are = weighed-records keep c.args.level.records.now c.requires.records in
    let begun = c.requires.grown.into.begun in
    let branch = c.branch-item.result in
    let steps = c.branches.invariant.steps in
    let so_far = c.branches.invariant.made in
    record {
      steps = c.in_ok-enter.ensures.steps ∙ steps;
      rows = c.enter.auto.reaches ∙ c.branches.invariant.rows;
      spans = c.branches.invariant.spans;
      made = so_far-next records keep p are begun c.requires.ordered so_far branch c.branches-test.true c.branch-item.is
          (subst (λ ss. Reached (g.C.Collect.state c.branches.collect) (GrowsOn records keep (stepped (pattern_of ss) branch.step))
          (g.C.Collect.state c.enter.new.collect)) steps c.in_ok-enter.ensures.made);
    }

pub deepen-returns-in_err-enter-clause-made : goal.deepen-returns-in_err-enter-clause-made
deepen-returns-in_err-enter-clause-made g t c =
    let keep = keeps c.args.level.kept.now in
    let records = weighed_of keep c.args.level.records.now in
    let p = pattern_of c.args.steps.now.items in
    let are = weighed-records keep c.args.level.records.now c.requires.records in
    let begun = c.requires.grown.into.begun in
    let branch = c.branch-item.result in
    let steps = c.branches.invariant.steps in
    let so_far = c.branches.invariant.made in
    stopped {P = GrowsOver records keep p} c.from_residual-in_err-enter.result c.from_residual-in_err-enter.ensures.0
    (so_far-some records keep p are begun c.requires.ordered so_far branch c.branches-test.true c.branch-item.is
    (subst (λ ss. ReachedSome (g.C.Collect.state c.branches.collect) (GrowsOn records keep (stepped (pattern_of ss) branch.step))
    (g.C.Collect.state c.enter.new.collect)) steps c.in_err-enter.ensures.made))

pub deepen-enter-requires : goal.deepen-enter-requires
deepen-enter-requires g t c κs within =
    let keep = keeps c.args.level.kept.now in
    let records = weighed_of keep c.args.level.records.now in
    let p = pattern_of c.args.steps.now.items in
    let are = weighed-records keep c.args.level.records.now c.requires.records in
    let begun = c.requires.grown.into.begun in
    let branch = c.branch-item.result in
    let steps = c.branches.invariant.steps in
    let so_far = c.branches.invariant.made in
    let seen = c.branches.steps.items in
    let q : pattern_of seen ≡ p = ap pattern_of steps in
    let begun' : IsBegun (pattern_of seen) = subst IsBegun (sym q) begun in
    let own : AreKept keep (pattern_of seen) = subst (AreKept keep) (sym q) c.requires.pattern in
    let ordered : IsInOrder (g.C.Collect.state c.branches.collect) = so_far-ordered records keep p are begun c.requires.ordered so_far in
    let is : IsBranch records keep (pattern_of seen) branch =
    subst (λ r. IsBranch records keep r branch) (sym q) (turn-branch records keep p are begun c.requires.ordered so_far branch c.branches-test.true
    c.branch-item.is) in
    let rows = c.branches.invariant.rows in
    let spans = c.branches.invariant.spans branch (c.branches.branch-index, c.branches-test.true, sym c.branch-item.is) in
    let records' = c.requires.records in
    let smaller : 2 * (4097 - length c.branches.steps.items) < 2 * (4097 - length c.args.steps.now.items) + 1 = omega (arith, ap length steps) in
    search rules

pub enter-narrowed-requires-clause-pattern : goal.enter-narrowed-requires-clause-pattern
enter-narrowed-requires-clause-pattern g t c =
    let n = node c.requires.records c.requires.begun c.requires.pattern c.requires.branch c.in_ok-push.ensures.items in
    n.own

pub enter-narrowed-requires-clause-held : goal.enter-narrowed-requires-clause-held
enter-narrowed-requires-clause-held g t c =
    let n = node c.requires.records c.requires.begun c.requires.pattern c.requires.branch c.in_ok-push.ensures.items in
    node-held c.args.level.records.now c.args.level.kept.now c.args.steps.now.items c.push.new.self.items c.args.branch.now c.args.level.trail.now
    c.requires.records n c.requires.spans

pub enter-returns-in_err-below-clause-made : goal.enter-returns-in_err-below-clause-made
enter-returns-in_err-below-clause-made g t c =
    let records = c.args.level.records.now in
    let kept = c.args.level.kept.now in
    let keep = keeps kept in
    let branch = c.args.branch.now in
    let steps = c.args.steps.now.items in
    let old = g.C.Collect.state c.args.collect.now in
    let n = node c.requires.records c.requires.begun c.requires.pattern c.requires.branch c.in_ok-push.ensures.items in
    let rs = weighed_of keep records in
    stopped {P = GrowsOn rs keep (stepped (pattern_of steps) branch.step)} c.from_residual-in_err-below.result c.from_residual-in_err-below.ensures.0
    (subst (λ q. ReachedSome old (GrowsOn rs keep q) (g.C.Collect.state c.narrowed.new.collect)) n.same c.in_err-below.ensures.made)

pub enter-returns-in-Nothing-clause-made : goal.enter-returns-in-Nothing-clause-made
enter-returns-in-Nothing-clause-made g t c =
    let records = c.args.level.records.now in
    let kept = c.args.level.kept.now in
    let keep = keeps kept in
    let pushed = c.push.new.self.items in
    let n = node c.requires.records c.requires.begun c.requires.pattern c.requires.branch c.in_ok-push.ensures.items in
    let rs = weighed_of keep records in
    let old = g.C.Collect.state c.args.collect.now in
    let new = g.C.Collect.state c.narrowed.new.collect in
    subst (λ q. Reached old (GrowsOn rs keep q) new) n.same (subst (GoesOn old new rs kept (pattern_of pushed)) c.in-Nothing.is c.in_ok-below.ensures.made)

pub enter-grown_below-requires : goal.enter-grown_below-requires
enter-grown_below-requires g t c =
    let o = opened c.requires.records c.requires.begun c.requires.pattern c.requires.branch c.in_ok-push.ensures.items c.in_ok-below.ensures.made
    c.in-Items.is in
    (pattern_of c.push.new.self.items, can-gather c.args.level.trail.now c.requires.records o c.requires.spans)

pub enter-returns-in_err-fewer-clause-made : goal.enter-returns-in_err-fewer-clause-made
enter-returns-in_err-fewer-clause-made g t c =
    let keep = keeps c.args.level.kept.now in
    let o = opened c.requires.records c.requires.begun c.requires.pattern c.requires.branch c.in_ok-push.ensures.items c.in_ok-below.ensures.made
    c.in-Items.is in
    stopped {P = GrowsOn (weighed_of keep c.args.level.records.now) keep (stepped (pattern_of c.args.steps.now.items) c.args.branch.now.step)}
    c.from_residual-in_err-fewer.result c.from_residual-in_err-fewer.ensures.0 (node-stopped o)

pub enter-deepen-requires : goal.enter-deepen-requires
enter-deepen-requires g t c κs within =
    let records = c.args.level.records.now in
    let kept = c.args.level.kept.now in
    let p = pattern_of c.push.new.self.items in
    let o = opened c.requires.records c.requires.begun c.requires.pattern c.requires.branch c.in_ok-push.ensures.items c.in_ok-below.ensures.made
    c.in-Items.is in
    let is = o.is in
    let made = c.in_ok-fewer.field-0 in
    let same = c.counting.ensures ∙ ap (λ f. counting f kept) c.in_ok-fewer.ensures.fewer in
    let stay = c.in_ok-below.ensures.steps in
    let used = c.counting.result.now in
    let now = pattern_of c.narrowed.new.steps.items in
    let ordered : IsInOrder (g.C.Collect.state c.narrowed.new.collect) = reached-in_order is.offers in
    let can = can-gather c.args.level.trail.now c.requires.records o c.requires.spans in
    let spans : AreBehind (keeps used) records c.walked.result.now made.grown =
    subst (λ cs. AreBehind (keeps used) records cs made.grown) (sym c.walked.ensures)
    (subst (λ f. AreBehind (keeps f) records (trail_of made.fewer c.args.level.trail.now) made.grown) (sym same) (c.in_ok-fewer.ensures.spans p can)) in
    let grown : AreGathered (weighed_of (keeps used) records) (keeps used) now made.grown =
    subst (λ q. AreGathered (weighed_of (keeps used) records) (keeps used) q made.grown) (sym (ap pattern_of stay))
    (subst (λ f. AreGathered (weighed_of (keeps f) records) (keeps f) p made.grown) (sym same) (c.in_ok-fewer.ensures.grown p can)) in
    let own : AreKept (keeps used) now = subst (λ q. AreKept (keeps used) q) (sym (ap pattern_of stay)) (subst (λ f. AreKept (keeps f) p) (sym same) is.own) in
    let rows : length c.narrowed.new.reaches ≡ length records = c.narrowed.auto.reaches ∙ c.requires.rows in
    let all = c.requires.records in
    let nearer = o.n.nearer in
    let smaller : 2 * (4097 - length c.narrowed.new.steps.items) + 1 < 2 * (4097 - length c.args.steps.now.items) = omega (arith, nearer, ap length stay) in
    search rules

pub enter-returns-in_err-deepen-clause-made : goal.enter-returns-in_err-deepen-clause-made
enter-returns-in_err-deepen-clause-made g t c =
    let records = c.args.level.records.now in
    let kept = c.args.level.kept.now in
    let o = opened c.requires.records c.requires.begun c.requires.pattern c.requires.branch c.in_ok-push.ensures.items c.in_ok-below.ensures.made
    c.in-Items.is in
    let fewer = counting c.in-Items.fewer kept in
    let mid = g.C.Collect.state c.narrowed.new.collect in
    let new = g.C.Collect.state c.deepen.new.collect in
    let same = c.counting.ensures ∙ ap (λ f. counting f kept) c.in_ok-fewer.ensures.fewer in
    let some = subst (λ ss. ReachedSome mid (GrowsOver (weighed_of (keeps fewer) records) (keeps fewer) (pattern_of ss)) new) c.in_ok-below.ensures.steps
    (subst (λ f. ReachedSome mid (GrowsOver (weighed_of (keeps f) records) (keeps f) (pattern_of c.narrowed.new.steps.items)) new) same
    c.in_err-deepen.ensures.made) in
    stopped {P = GrowsOn (weighed_of (keeps kept) records) (keeps kept) (stepped (pattern_of c.args.steps.now.items) c.args.branch.now.step)}
    c.from_residual-in_err-deepen.result c.from_residual-in_err-deepen.ensures.0 (node-some o some)

pub enter-returns-clause-made : goal.enter-returns-clause-made
enter-returns-clause-made g t c =
    let records = c.args.level.records.now in
    let kept = c.args.level.kept.now in
    let o = opened c.requires.records c.requires.begun c.requires.pattern c.requires.branch c.in_ok-push.ensures.items c.in_ok-below.ensures.made
    c.in-Items.is in
    let fewer = counting c.in-Items.fewer kept in
    let mid = g.C.Collect.state c.narrowed.new.collect in
    let new = g.C.Collect.state c.deepen.new.collect in
    let same = c.counting.ensures ∙ ap (λ f. counting f kept) c.in_ok-fewer.ensures.fewer in
    let made = subst (λ ss. Reached mid (GrowsOver (weighed_of (keeps fewer) records) (keeps fewer) (pattern_of ss)) new) c.in_ok-below.ensures.steps
    (subst (λ f. Reached mid (GrowsOver (weighed_of (keeps f) records) (keeps f) (pattern_of c.narrowed.new.steps.items)) new) same
    c.in_ok-deepen.ensures.made) in
    node-all o c.requires.ordered made
