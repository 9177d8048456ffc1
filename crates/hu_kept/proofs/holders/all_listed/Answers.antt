use Rattle.std.proofs.Common.{subst, arith}
use Rattle.std.proofs.lemmas.List.{take_all}
use Rattle.hu_kept.specs.Holders.{IsListed, ListsAll}
use Rattle.hu_kept.proofs.HolderLemmas.{lists-next}
use Rattle.hu_kept.proofs.holders.all_listed.Goals as goal

pub loop-place-preserved : goal.loop-place-preserved
loop-place-preserved c =
    let records = c.args.records.now in
    let i = c.loop-place.place in
    let old = c.loop-place.places in
    let new = c.list_cells.new.places in
    let cells = c.index-records-place.result in
    let listed = subst (λ cs. IsListed old cs i new) c.cells.ensures.value c.in_ok-list_cells.ensures in
    lists-next records i cells old new (omega (arith, c.loop-place-test.true)) c.index-records-place.is c.loop-place.invariant listed

pub returns : goal.returns
returns c =
    let records = c.args.records.now in
    let all = take_all c.loop-place.place records (omega (arith, c.loop-place-test.false)) in
    subst (λ rs. ListsAll rs c.loop-place.places) all c.loop-place.invariant
