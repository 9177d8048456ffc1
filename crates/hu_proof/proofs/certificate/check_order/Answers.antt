use Rattle.std.proofs.Common.{◌≡◌, Some, ap, sym, subst, ◌∙◌, option_map}
use Rattle.std.specs.Int.{w128}
use Rattle.std.proofs.lemmas.Int.{to_z-of_z}
use Rattle.hu_base.specs.Base.{records_of}
use Rattle.hu_proof.specs.Check.{order_fault, from_order}
use Rattle.hu_proof.specs.Judged.{Judges}
use Rattle.hu_proof.specs.Text.{order_of, pieces}
use Rattle.hu_proof.specs.Words.{numbers_of}
use Rattle.hu_proof.proofs.CheckLemmas.{from_order-cons}
use Rattle.hu_proof.proofs.TurnLemmas.{some-pieces}
use Rattle.hu_proof.proofs.certificate.check_order.Goals as goal

pub returns-in-Some-2-clause-fault : goal.returns-in-Some-2-clause-fault
returns-in-Some-2-clause-fault c =
    let records = records_of c.args.base.now in
    let least = c.args.least in
    let ps = pieces c.in-Some.rest.now in
    let stated : order_of c.in-Some.line.now ≡ Some (numbers_of c.in-Some-2.items.items) =
    sym c.in_ok-stated_order.ensures ∙ ap (option_map (λ items. numbers_of items.items)) c.in-Some-2.is in
    let same : from_order records least (pieces c.args.text.now) ≡ order_fault records least (Some (numbers_of c.in-Some-2.items.items)) ps =
    ap (from_order records least) c.in-Some.ensures.found ∙ (from_order-cons records least c.in-Some.line.now ps (some-pieces c.in-Some.rest.now)
    ∙ ap (λ o. order_fault records least o ps) stated) in
    let plain = subst (λ m. Judges c.check_walk.result (order_fault records m (Some (numbers_of c.deref.result.now)) ps))
    (to_z-of_z w128 least c.ranges.least) c.check_walk.ensures.fault in
    let read = subst (λ xs. Judges c.check_walk.result (order_fault records least (Some (numbers_of xs)) ps)) c.deref.ensures.value plain in
    subst (Judges c.check_walk.result) (sym same) read
