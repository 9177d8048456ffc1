use Rattle.std.proofs.Common.{subst}
use Rattle.std.proofs.lemmas.Bool.{not-false}
use Rattle.hu_collect.specs.Ranks.{IsShut}
use Rattle.hu_closed.specs.ClosedOnly.{closed_state, inner_of, records_in, table_of}
use Rattle.hu_closed.proofs.PartLemmas.{wants-closed, wants-inner}
use Rattle.hu_closed.proofs.closed_only.ClosedOnlyCollect.opens.Goals as goal

pub returns-then-opens-clause-grown : goal.returns-then-opens-clause-grown
returns-then-opens-clause-grown g c shut =
    let inner = (g.C.Collect.state c.self.inside.inner).rule in
    let none =
    wants-closed inner c.self.inside.sets.now c.self.inside.ranked.now.items c.args.key.now c.args.last
    (c.closes_below.ensures.shuts (not-false c.closes_below.result shut)) in
    subst (λ v. IsShut (closed_state (g.C.Collect.state (inner_of v)) (records_in v) (table_of v)).rule c.args.key.now c.args.last) c.self.view_is none

pub returns-else-opens-clause-grown : goal.returns-else-opens-clause-grown
returns-else-opens-clause-grown g c shut =
    let inner = (g.C.Collect.state c.self.inside.inner).rule in
    let none =
    wants-inner inner c.self.inside.sets.now c.self.inside.ranked.now.items c.args.key.now c.args.last
    c.self.invariant.rests (c.opens.ensures.law shut) in
    subst (λ v. IsShut (closed_state (g.C.Collect.state (inner_of v)) (records_in v) (table_of v)).rule c.args.key.now c.args.last) c.self.view_is none
