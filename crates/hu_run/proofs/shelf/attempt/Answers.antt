use Rattle.std.proofs.Common.{refl}
use Rattle.std.proofs.lemmas.Result.{err_from_is_err_and}
use Rattle.hu_input.specs.Names.{texts_of}
use Rattle.hu_run.specs.ShelfJob.{shelf_job}
use Rattle.hu_run.proofs.ResultLemmas.{err_of}
use Rattle.hu_run.proofs.shelf.attempt.Goals as goal

pub returns-in_err-job-clause-ends : goal.returns-in_err-job-clause-ends
returns-in_err-job-clause-ends g c =
    let p = err_from_is_err_and c.from_residual.result c.from_residual.ensures.1 in
    rw (p.1, p.2) (err_of (shelf_job (texts_of c.args.words.now)) _ c.in_err-job.ensures.fault, record { files = refl; out = refl; keeper = refl })
