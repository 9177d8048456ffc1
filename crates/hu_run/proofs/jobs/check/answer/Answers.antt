use Rattle.std.proofs.Common.{◌≡◌, subst, to_z, of_z}
use Rattle.std.specs.Int.{w128}
use Rattle.std.proofs.lemmas.Int.{to_z-of_z}
use Rattle.std.proofs.lemmas.Result.{err_from_is_err_and}
use Rattle.hu_input.specs.Names.{texts_of}
use Rattle.hu_base.specs.Base.{records_in}
use Rattle.hu_run.specs.Attempt.{Judges}
use Rattle.hu_run.proofs.CheckLemmas.{cert-unread, cert-judged}
use Rattle.hu_run.proofs.jobs.check.answer.Goals as goal

pub returns-in_err-text : goal.returns-in_err-text
returns-in_err-text g c =
    let a = c.args in
    let stop = err_from_is_err_and c.from_residual-in_err-text.result c.from_residual-in_err-text.ensures.1 in
    rw (stop.1, stop.2) (cert-unread a.least a.cert.now (g.F.Files.state a.files.now) (g.F.Files.state c.read_files.new.files) (texts_of a.names.now)
    c.in_ok-batches.batches.items c.in_ok-batches.ensures (g.F.Files.state c.read_content.new.files) c.in_err-text.field-0.0 c.in_err-text.ensures)

pub returns : goal.returns
returns g c =
    let a = c.args in
    let bases = c.in_ok-batches.batches.items in
    let text = c.in_ok-text.text.items in
    let front : c.as_slice.result.now ≡ text = c.as_slice.ensures.value in
    let exact = to_z-of_z w128 a.least c.ranges.least in
    let judged : Judges a.least a.cert.now (records_in bases) text c.judge.result =
    subst (λ least. Judges least a.cert.now (records_in bases) text c.judge.result) exact
    (subst (λ read. Judges (to_z w128 (of_z w128 a.least)) a.cert.now (records_in bases) read c.judge.result) front
    (subst (λ records. Judges (to_z w128 (of_z w128 a.least)) a.cert.now records c.as_slice.result.now c.judge.result) c.in_ok-base.ensures c.judge.ensures)) in
    cert-judged a.least a.cert.now (g.F.Files.state a.files.now) (g.F.Files.state c.read_files.new.files) (texts_of a.names.now) bases
    c.in_ok-batches.ensures (g.F.Files.state c.read_content.new.files) text c.judge.result c.in_ok-text.ensures judged
