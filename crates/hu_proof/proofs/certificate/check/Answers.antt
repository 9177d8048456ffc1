use Rattle.std.proofs.Common.{◌≡◌, None, subst, map, drop, IfOk, arith}
use Rattle.std.specs.Int.{w128}
use Rattle.std.proofs.lemmas.Int.{to_z-of_z}
use Rattle.hu_base.specs.Base.{records_of}
use Rattle.hu_kind.specs.Answer.{answer}
use Rattle.hu_proof.specs.Check.{from_minimum}
use Rattle.hu_proof.specs.Judged.{Judges}
use Rattle.hu_proof.specs.Opened.{prefix_entry, prefixes_in}
use Rattle.hu_proof.specs.Text.{pieces}
use Rattle.hu_proof.proofs.CheckLemmas.{answered}
use Rattle.hu_proof.proofs.NeverMemory.{never_memory}
use Rattle.hu_proof.proofs.certificate.check.Goals as goal

pub returns-clause-answer : goal.returns-clause-answer
returns-clause-answer c =
    let records = records_of c.args.base.now in
    let least = c.args.least in
    let text = c.args.text.now in
    let back = to_z-of_z w128 least c.ranges.least in
    let fault = subst (λ m. Judges c.check_text.result (from_minimum records m (pieces text))) back c.check_text.ensures.fault in
    let opened = subst (λ m. IfOk c.check_text.result (λ entries. entries.items ≡ answer m None
    (map (prefix_entry records) (prefixes_in (drop 2 (pieces text)))))) back c.check_text.ensures.answer in
    answered (λ entries. entries.items) records least text c.check_text.result c.requires (omega arith) fault opened

pub returns-clause-never_memory : goal.returns-clause-never_memory
returns-clause-never_memory c = never_memory (records_of c.args.base.now) c.args.least c.args.text.now
