use Rattle.std.proofs.Common.{◌≡◌, ◌∙◌, ◌<◌, length, filter, int_le, ap, sym, subst, to_z, of_z}
use Rattle.std.specs.Int.{w128}
use Rattle.std.specs.List.{All}
use Rattle.std.proofs.lemmas.Int.{to_z-of_z}
use Rattle.hu_raise.specs.Sums.{ranks_reaching, sum_at}
use Rattle.hu_raise.proofs.SumLemmas.{All-listed_below, reaching-sorted}
use Rattle.hu_raise.proofs.sums.Sums.reaching.Goals as goal

pub reaching_among-requires : goal.reaching_among-requires
reaching_among-requires c =
    subst (λ sums. All (λ rank. rank < length sums) c.deref-2.result.now) (sym c.deref.ensures.value)
    (subst (All (λ rank. rank < length c.self.inside.sums.items)) (sym c.deref-2.ensures.value)
    (All-listed_below c.self.inside.sums.items c.self.inside.touched.items c.self.invariant))

pub returns : goal.returns
returns c =
    let sums = c.self.inside.sums.items in
    let touched = c.self.inside.touched.items in
    let found = c.in_ok-ranks.ranks.items in
    let floor = c.args.floor in
    let among : found ≡ filter (λ rank. int_le (to_z w128 (of_z w128 floor)) (sum_at c.deref.result.now rank)) c.deref-2.result.now = c.in_ok-ranks.ensures in
    let all : found ≡ filter (λ rank. int_le floor (sum_at sums rank)) touched =
    among ∙ (λ j. filter (λ rank. int_le (to_z-of_z w128 floor c.ranges.floor j) (sum_at (c.deref.ensures.value j) rank)) (c.deref-2.ensures.value j)) in
    reaching-sorted floor sums touched c.self.invariant c.requires found c.sort_unstable.new.self.items all
    c.sort_unstable.ensures.permutation c.sort_unstable.ensures.sorted
    ∙ ap (ranks_reaching floor) c.self.view_is
