use Rattle.std.proofs.Common.{subst, IfOk}
use Rattle.std.specs.Int.{w128}
use Rattle.std.proofs.lemmas.Int.{to_z-of_z}
use Rattle.std.proofs.lemmas.Result.{IfOk-weaker}
use Rattle.hu_span.specs.Search.{AreKeptBest}
use Rattle.hu_span.proofs.SpanLemmas.{spans-length, part-spans}
use Rattle.hu_span.proofs.search.best_branches.Goals as goal

pub best_of-requires-clause-into_spans : goal.best_of-requires-clause-into_spans
best_of-requires-clause-into_spans c =
    let r = c.requires.spans in
    let is = r.3 in
    spans-length r.0 r.1 r.2 c.args.grown.into.marks.items c.args.grown.into.spans.items is.into

pub best_of-requires-clause-after_spans : goal.best_of-requires-clause-after_spans
best_of-requires-clause-after_spans c =
    let r = c.requires.spans in
    let is = r.3 in
    spans-length r.0 r.1 r.2 c.args.grown.after.marks.items c.args.grown.after.spans.items is.after

pub returns-clause-best : goal.returns-clause-best
returns-clause-best c rs keep p gathered =
    subst (λ f. IfOk c.best_of.result (λ kept. AreKeptBest rs keep p f kept.items)) (to_z-of_z w128 c.args.floor c.ranges.floor)
    (c.best_of.ensures.best rs keep p gathered.into gathered.after)

pub returns-clause-spans : goal.returns-clause-spans
returns-clause-spans c keep records trail is =
    IfOk-weaker c.best_of.result _ _ (λ kept parts branch among.
    part-spans keep records trail c.args.grown.into c.args.grown.after branch is.into is.after (parts branch among)) c.best_of.ensures.parts
