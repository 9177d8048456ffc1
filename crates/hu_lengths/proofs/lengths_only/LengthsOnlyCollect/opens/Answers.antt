use Rattle.std.proofs.Common.{◌<◌, length, subst}
use Rattle.hu_collect.specs.Ranks.{IsShut}
use Rattle.hu_lengths.specs.LengthsOnly.{sized_state, inner_of, short_of, long_of}
use Rattle.hu_lengths.proofs.lemmas.SizedLemmas.{shut-inner, shut-long}
use Rattle.hu_lengths.proofs.lengths_only.LengthsOnlyCollect.opens.Goals as goal

pub returns-else-numbers-self-clause-grown : goal.returns-else-numbers-self-clause-grown
returns-else-numbers-self-clause-grown g c shut =
    let inner = (g.C.Collect.state c.self.inside.inner).rule in
    let over : c.self.inside.long < length c.args.key.now = subst (λ key. c.self.inside.long < length key) c.numbers.ensures c.if-numbers-self.false in
    let none = shut-long c.self.inside.short c.self.inside.long inner c.args.key.now c.args.last over in
    subst (λ v. IsShut (sized_state (short_of v) (long_of v) (g.C.Collect.state (inner_of v))).rule c.args.key.now c.args.last) c.self.view_is none

pub returns-then-numbers-self-clause-grown : goal.returns-then-numbers-self-clause-grown
returns-then-numbers-self-clause-grown g c shut =
    let inner = (g.C.Collect.state c.self.inside.inner).rule in
    let none = shut-inner c.self.inside.short c.self.inside.long inner c.args.key.now c.args.last (c.opens.ensures.law shut) in
    subst (λ v. IsShut (sized_state (short_of v) (long_of v) (g.C.Collect.state (inner_of v))).rule c.args.key.now c.args.last) c.self.view_is none
