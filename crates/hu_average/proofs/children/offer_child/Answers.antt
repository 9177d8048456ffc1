use Rattle.std.proofs.Common.{◌≡◌, ◌+◌, ◌++◌, [], ◌∷◌, ap, sym, length, arith, to_z, of_z}
use Rattle.std.specs.Int.{w128}
use Rattle.std.proofs.lemmas.Int.{ints}
use Rattle.hu_kind.specs.Database.{utility}
use Rattle.hu_kind.proofs.lemmas.Earned.{utility-within}
use Rattle.hu_search.specs.Growth.{rank_entry}
use Rattle.hu_average.specs.declared.totals.RankTotal.{RankTotal}
use Rattle.hu_average.proofs.CoverLemmas.{offered-left_out}
use Rattle.hu_average.proofs.TurnLemmas.{key-length, entry-at_most}
use Rattle.hu_average.proofs.children.offer_child.Goals as goal

pub returns-then-leaves_out : goal.returns-then-leaves_out
returns-then-leaves_out c =
    let r = c.args.ranked.now in
    let set = c.args.ranks.now in
    let z = c.args.child.now.rank in
    let is = c.requires.child in
    let same = ap (λ (t : RankTotal). t.utility) is.is in
    let within = utility-within r.records (set ++ z ∷ []) is.later.ascending in
    let fits = c.requires.rules.sum_fits in
    let earned : to_z w128 (of_z w128 c.args.child.now.total.utility) ≡ utility r.records (set ++ z ∷ []) =
    omega (arith, ints, same, within, fits) in
    let most = entry-at_most r c.requires.rules set z is.later (to_z w128 (of_z w128 c.args.child.now.total.utility)) (length set + 1) earned
    (omega arith) in
    sym (offered-left_out c.args.best.now (rank_entry r (set ++ z ∷ [])) c.requires.kept
    (c.leaves_out.ensures.out c.if-leaves_out.true (rank_entry r (set ++ z ∷ [])) most))

pub offer-requires : goal.offer-requires
offer-requires c =
    let key = key-length c.args.ranked.now c.requires.rules c.args.ranks.now c.args.child.now.rank c.requires.child.later in
    let same = ap length c.in_ok-key_of.ensures in
    record { some = omega (arith, key, same) }
