use Rattle.std.proofs.Common.{Some, None, ap, sym, subst, inr, ◌∙◌}
use Rattle.std.specs.Int.{w128}
use Rattle.std.proofs.lemmas.Int.{to_z-of_z}
use Rattle.hu_base.specs.Base.{records_of}
use Rattle.hu_proof.specs.Check.{from_minimum, from_order}
use Rattle.hu_proof.specs.Judged.{Judges, JudgesMinimum}
use Rattle.hu_proof.specs.Text.{minimum_of, pieces}
use Rattle.hu_proof.proofs.CheckLemmas.{minimum-passed, minimum-wrong}
use Rattle.hu_proof.proofs.TurnLemmas.{some-pieces}
use Rattle.hu_proof.proofs.certificate.check_text.Goals as goal

pub returns-in-Some-minimum_fault-clause-fault : goal.returns-in-Some-minimum_fault-clause-fault
returns-in-Some-minimum_fault-clause-fault c =
    let records = records_of c.args.base.now in
    let least = c.args.least in
    let fault = c.in-Some-minimum_fault.fault in
    let judged = subst (λ m. JudgesMinimum m (minimum_of c.in-Some.line.now) (Some fault)) (to_z-of_z w128 least c.ranges.least)
    c.in-Some-minimum_fault.ensures in
    inr (ap (from_minimum records least) c.in-Some.ensures.found
    ∙ minimum-wrong records least c.in-Some.line.now (pieces c.in-Some.rest.now) fault (some-pieces c.in-Some.rest.now) judged)

pub returns-in-None-clause-fault : goal.returns-in-None-clause-fault
returns-in-None-clause-fault c =
    let records = records_of c.args.base.now in
    let least = c.args.least in
    let ps = pieces c.in-Some.rest.now in
    let judged = subst (λ m. JudgesMinimum m (minimum_of c.in-Some.line.now) None) (to_z-of_z w128 least c.ranges.least) c.in-None.ensures in
    let same = ap (from_minimum records least) c.in-Some.ensures.found
    ∙ minimum-passed records least c.in-Some.line.now ps (some-pieces c.in-Some.rest.now) judged in
    let plain = subst (λ m. Judges c.check_order.result (from_order records m ps)) (to_z-of_z w128 least c.ranges.least) c.check_order.ensures.fault in
    subst (Judges c.check_order.result) (sym same) plain
