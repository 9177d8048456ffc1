use Rattle.std.proofs.Common.{◌≡◌, ◌∙◌, ap, arith, get_or, []}
use Rattle.std.proofs.lemmas.List.{take_all}
use Rattle.hu_kind.specs.Cell.{pairs_of}
use Rattle.hu_kind.specs.Record.{absolute_of}
use Rattle.hu_base.specs.Base.{records_of}
use Rattle.hu_kept.specs.Shared.{shared_at, shared_cells}
use Rattle.hu_kept.proofs.PlaceLemmas.{shared_at-all}
use Rattle.hu_kept.proofs.SharedRecords.{sum-next}
use Rattle.hu_kept.proofs.shared.shared.Goals as goal

pub add_some-requires-clause-fits : goal.add_some-requires-clause-fits
add_some-requires-clause-fits c =
    let batch = c.args.batch.now in
    let records = records_of c.args.base.now in
    let places = c.args.places.now in
    let i = c.loop-place.place-index in
    let place = get_or places i 0 in
    let seen : c.records.result.now ≡ records = c.records.ensures in
    let is : absolute_of (pairs_of c.in_ok-cells.cells.items) ≡ absolute_of (shared_cells batch (get_or records place [])) =
    ap absolute_of (c.in_ok-cells.ensures.value ∙ ap (λ rs. shared_cells batch (get_or rs place [])) seen) in
    let next = sum-next batch records places i (records_of c.loop-place.narrow) c.loop-place-test.true c.loop-place.invariant.records
    (shared_at-all batch records places c.requires) in
    omega (arith, is, c.loop-place.invariant.carried, next, c.sum-sum.ensures.fits)

pub returns : goal.returns
returns c =
    let batch = c.args.batch.now in
    let records = records_of c.args.base.now in
    let places = c.args.places.now in
    let all = take_all c.loop-place.place-index places (omega (arith, c.loop-place-test.false)) in
    c.loop-place.invariant.records ∙ ap (shared_at batch records) all ∙ shared_at-all batch records places c.requires
