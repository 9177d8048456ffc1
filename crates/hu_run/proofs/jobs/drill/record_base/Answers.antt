use Rattle.std.proofs.Common.{ap, length, ◌*◌, ◌∙◌}
use Rattle.std.proofs.lemmas.List.FromFn.{length-map-range_with_len}
use Rattle.std.proofs.lemmas.Result.{IfOk-weaker}
use Rattle.hu_base.specs.Base.{records_of}
use Rattle.hu_drill.specs.Draws.{after_draws}
use Rattle.hu_drill.specs.Drilled.{cells_of}
use Rattle.hu_run.specs.Drill.{drill_records}
use Rattle.hu_run.proofs.jobs.drill.record_base.Goals as goal

pub returns-clause-value : goal.returns-clause-value
unfolding drill_records
returns-clause-value c = IfOk-weaker c.make.result _ _ (λ base is. ap records_of is) c.make.ensures.value

pub returns-clause-count : goal.returns-clause-count
returns-clause-count c = IfOk-weaker c.make.result _ _
    (λ base is. ap (λ b. length (records_of b)) is
    ∙ length-map-range_with_len (λ n. cells_of 30 (after_draws (60 * n) c.args.seed)) 0 2000) c.make.ensures.value
