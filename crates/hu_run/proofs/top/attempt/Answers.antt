use Rattle.std.proofs.Common.{refl, sym, ap, ◌∙◌}
use Rattle.std.proofs.lemmas.Result.{err_from_is_err_and}
use Rattle.hu_input.specs.Names.{texts_of}
use Rattle.hu_run.specs.Job.{job, asked_of}
use Rattle.hu_io.specs.State.{Appended}
use Rattle.hu_run.proofs.EndLemmas.{has-text, names-of-texts}
use Rattle.hu_run.proofs.ResultLemmas.{err_of}
use Rattle.hu_run.proofs.top.attempt.Goals as goal

pub returns-in_err-job-clause-ends : goal.returns-in_err-job-clause-ends
returns-in_err-job-clause-ends g c =
    let p = err_from_is_err_and c.from_residual.result c.from_residual.ensures.1 in
    rw (p.1, p.2) (err_of (job (texts_of c.args.words.now)) _ c.in_err-job.ensures.fault, refl, refl)

pub returns-clause-ends : goal.returns-clause-ends
returns-clause-ends g c =
    let words = c.args.words.now in
    let asked = asked_of c.in_ok-job.job in
    has-text (texts_of words) asked (g.F.Files.state c.args.files.now) (g.F.Files.state c.answer.new.files) _ _
    (Appended (g.O.Sink.state c.args.out.now) (g.O.Sink.state c.write.new.sink)) c.in_ok-job.ensures.job
    (ap texts_of c.in_ok-job.ensures.names ∙ sym (names-of-texts asked words)) c.in_ok-answer.ensures.answers c.in_ok-write.ensures
