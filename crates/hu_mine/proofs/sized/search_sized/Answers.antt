use Rattle.std.proofs.Common.{◌≡◌, ◌∙◌, ◌≤ℤ◌, ap, sym, subst}
use Rattle.std.specs.Int.{w128}
use Rattle.std.proofs.lemmas.Int.{to_z-of_z}
use Rattle.hu_base.specs.Base.{records_of}
use Rattle.hu_collect.specs.Limited.{limited_state}
use Rattle.hu_collect.specs.State.{State, floor_in}
use Rattle.hu_lengths.specs.LengthsOnly.{inner_of, long_of, short_of, sized_state}
use Rattle.hu_mine.proofs.SearchLemmas.{mined-ranked}
use Rattle.hu_mine.proofs.sized.search_sized.Goals as goal

pub returns : goal.returns
returns c =
    let old = c.args.collect.now in
    let state : State = sized_state (short_of old) (long_of old) (limited_state (inner_of old)) in
    let same : c.in_ok-ranked.ranked.floor ≡ c.args.least =
    ap (λ r. r.floor) c.in_ok-ranked.ensures.value ∙ to_z-of_z w128 c.args.least c.ranges.least in
    let low = subst (λ floor. floor ≤ℤ floor_in state) (sym same) c.requires.floor in
    mined-ranked c.mine_sized.result state _ (records_of c.args.base) c.in_ok-ranked.ranked
    c.floor-floor.ensures.in_order c.in_ok-ranked.ensures.patterns low c.mine_sized.ensures
