use Rattle.std.proofs.Common.{◌∙◌, length, refl, subst, to_z, of_z, arith}
use Rattle.std.specs.Int.{w128}
use Rattle.std.proofs.lemmas.Int.{to_z-of_z}
use Rattle.std.proofs.lemmas.List.{take_all}
use Rattle.hu_rows.specs.Handed.{reaches, handed_if, places_at, ArePlaces}
use Rattle.hu_totals.specs.View.{lists_in}
use Rattle.hu_rows.specs.View.{rows_of}
use Rattle.hu_rows.proofs.CellChecks.{ascends-at, below-at}
use Rattle.hu_rows.proofs.PlaceLemmas.{ArePlaces-none, ArePlaces-more}
use Rattle.hu_rows.proofs.PastEnd.{past_row}
use Rattle.hu_rows.proofs.places.hand_rows.Goals as goal

pub loop-row-init : goal.loop-row-init
loop-row-init c = record {
  len = refl;
  value = λ rank. ArePlaces-none (rows_of c.args.rows.now) (reaches c.args.tallies.now (to_z w128 (of_z w128 c.args.floor)) rank) rank
      (places_at (lists_in c.args.lists.now.items) rank) (c.requires.empty rank);
}

pub hand_row-requires-clause-below : goal.hand_row-requires-clause-below
hand_row-requires-clause-below c =
    below-at (length (lists_in c.loop-row.lists.items)) (length (lists_in c.args.lists.now.items)) c.args.rows.now c.loop-row.row past_row
    c.requires.below c.loop-row.invariant.len c.loop-row-test.true

pub loop-row-preserved : goal.loop-row-preserved
loop-row-preserved c =
    let p = reaches c.args.tallies.now (to_z w128 (of_z w128 c.args.floor)) in
    let up = ascends-at c.args.rows.now c.loop-row.row past_row c.requires.rules.ascending c.loop-row-test.true in
    record {
      len = c.in_ok-hand_row.ensures.len ∙ c.loop-row.invariant.len;
      value = λ rank. ArePlaces-more p c.args.rows.now c.loop-row.row past_row rank (places_at (lists_in c.loop-row.lists.items) rank)
          (places_at (lists_in c.hand_row.new.lists.items) rank)
          c.loop-row-test.true up (c.loop-row.invariant.value rank) (c.in_ok-hand_row.ensures.value rank);
    }

pub returns-clause-value : goal.returns-clause-value
returns-clause-value c rank =
    let same = to_z-of_z w128 c.args.floor c.ranges.floor in
    let all = take_all c.loop-row.row c.args.rows.now (omega arith) in
    subst (λ f. ArePlaces (rows_of c.args.rows.now) (handed_if (reaches c.args.tallies.now f rank) rank (rows_of c.args.rows.now))
    (places_at (lists_in c.loop-row.lists.items) rank)) same
    (subst (λ rs. ArePlaces (rows_of c.args.rows.now) (handed_if (reaches c.args.tallies.now (to_z w128 (of_z w128 c.args.floor)) rank) rank (rows_of rs))
    (places_at (lists_in c.loop-row.lists.items) rank)) all (c.loop-row.invariant.value rank))
