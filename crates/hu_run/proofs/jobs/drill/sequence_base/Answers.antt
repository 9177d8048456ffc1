use Rattle.std.proofs.Common.{ap}
use Rattle.std.proofs.lemmas.Result.{IfOk-weaker}
use Rattle.hu_base.specs.Base.{records_of}
use Rattle.hu_run.specs.Drill.{drill_sequences}
use Rattle.hu_run.proofs.jobs.drill.sequence_base.Goals as goal

pub returns-clause-value : goal.returns-clause-value
unfolding drill_sequences
returns-clause-value c = IfOk-weaker c.make_sequences.result _ _ (λ base is. ap records_of is) c.make_sequences.ensures.value
