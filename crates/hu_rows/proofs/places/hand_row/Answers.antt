use Rattle.std.proofs.Common.{◌<◌, ◌∙◌, ◌++◌, ℕ, ◌-◌, length, to_z, of_z, ap, arith}
use Rattle.std.specs.Int.{w128}
use Rattle.std.proofs.lemmas.Int.{to_z-of_z}
use Rattle.hu_totals.specs.View.{cells_of, lists_in}
use Rattle.hu_totals.proofs.lemmas.DenseLemmas.{rank-at}
use Rattle.hu_rows.specs.Handed.{reaches, places_at}
use Rattle.hu_rows.specs.Places.{places_in}
use Rattle.hu_rows.proofs.PlaceLemmas.{hand-more, hand-end}
use Rattle.hu_rows.proofs.PastEnd.{past_cell}
use Rattle.hu_rows.proofs.places.hand_row.Goals as goal

pub reaches-requires : goal.reaches-requires
reaches-requires c =
    omega (
      arith,
      rank-at (λ (rank : ℕ). rank < length (lists_in c.args.lists.now.items)) c.args.cells.now (c.loop-next.next - 1) past_cell c.requires.below
          (omega arith),
      c.requires.told,
    )

pub push_place-requires : goal.push_place-requires
push_place-requires c =
    omega (
      arith,
      rank-at (λ (rank : ℕ). rank < length (lists_in c.args.lists.now.items)) c.args.cells.now (c.loop-next.next - 1) past_cell c.requires.below
          (omega arith),
      c.loop-next.invariant.len,
    )

pub loop-next-preserved : goal.loop-next-preserved
loop-next-preserved c =
    let p = reaches c.args.tallies.now (to_z w128 (of_z w128 c.args.floor)) in
    record {
      len = c.in_ok-push_place.ensures.len ∙ c.loop-next.invariant.len;
      value = λ rank. hand-more p c.args.row c.loop-next.next c.args.cells.now past_cell rank
          (places_at (lists_in c.args.lists.now.items) rank ++ places_in p c.args.row (cells_of c.args.cells.now) rank)
          (places_at (lists_in c.loop-next.lists.items) rank) (places_at (lists_in c.push_place.new.lists.items) rank) c.reaches.result
          (omega arith) c.loop-next-test.true
          (c.loop-next.invariant.value rank) c.reaches.ensures.value (c.in_ok-push_place.ensures.value rank);
    }

pub returns-clause-value : goal.returns-clause-value
returns-clause-value c rank =
    let p = reaches c.args.tallies.now (to_z w128 (of_z w128 c.args.floor)) in
    hand-end p c.args.row c.loop-next.next c.args.cells.now rank
    (places_at (lists_in c.args.lists.now.items) rank ++ places_in p c.args.row (cells_of c.args.cells.now) rank)
    (places_at (lists_in c.loop-next.lists.items) rank) (omega arith) (omega arith) (c.loop-next.invariant.value rank)
    ∙ ap (λ f. places_at (lists_in c.args.lists.now.items) rank ++ places_in (reaches c.args.tallies.now f) c.args.row (cells_of c.args.cells.now) rank)
    (to_z-of_z w128 c.args.floor c.ranges.floor)
